mod Scanning
pub mod Keeping
pub mod Sizes
