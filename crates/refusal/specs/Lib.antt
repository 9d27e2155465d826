pub mod Causes
pub mod Answers
