pub mod Walk
pub mod Step
