pub mod Markers
pub mod Slotting
pub mod Settles
pub mod Steps
pub mod Walk
