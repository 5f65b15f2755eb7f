pub mod Start
pub mod Shape
pub mod Attention
pub mod Result
pub mod Promise
