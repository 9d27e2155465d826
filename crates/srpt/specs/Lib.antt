pub mod Ranked
pub mod Lefts
pub mod Choice
pub mod Jobs
pub mod Numbers
pub mod Tables
pub mod Choosing
