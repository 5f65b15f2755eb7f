pub mod Held
pub mod Filling
pub mod Promise
pub mod Cases
