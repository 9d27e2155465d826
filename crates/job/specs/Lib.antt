pub mod Rules
pub mod Names
