pub mod Keeping
pub mod Ended
pub mod Accepting
pub mod Tying
pub mod Reached
mod Asking
