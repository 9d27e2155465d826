pub mod Lines
pub mod Rules
pub mod Tokens
pub mod Inner
pub mod Answers
pub mod Walk
