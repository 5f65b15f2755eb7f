pub mod Headings
pub mod Text
pub mod Steps
pub mod Promise
pub mod Cases
pub mod Shape
pub mod Outside
