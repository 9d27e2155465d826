pub mod Order
pub mod Held
pub mod InOrder
pub mod Answers
pub mod Sifting
pub mod Heaps
pub mod Rankings
pub mod Views
