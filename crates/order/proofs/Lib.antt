pub mod Rising
pub mod Chosen
pub mod Serving
pub mod Entering
pub mod Turning
