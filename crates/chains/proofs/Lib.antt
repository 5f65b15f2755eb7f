pub mod Flags
pub mod Steps
pub mod Pops
