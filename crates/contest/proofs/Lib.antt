pub mod Counts
pub mod Lines
pub mod Keeping
pub mod Ruling
pub mod Agreeing
pub mod Comparing
pub mod Playing
pub mod Standing
