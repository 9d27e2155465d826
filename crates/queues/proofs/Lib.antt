pub mod Admitted
pub mod Found
pub mod Ring
pub mod Turning
pub mod Leaving
