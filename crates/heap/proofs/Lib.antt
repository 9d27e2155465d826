mod Gaps
mod Children
pub mod Handles
mod Steps
mod Reading
mod Pigeons
mod Edits
mod Counts
