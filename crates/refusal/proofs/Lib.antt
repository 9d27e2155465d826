pub mod Accepted
pub mod Apart
