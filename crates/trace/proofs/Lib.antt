pub mod Cuts
pub mod Numbers
pub mod Unique
pub mod Reading
pub mod Sofar
pub mod Settled
pub mod Ahead
