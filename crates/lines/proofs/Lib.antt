pub mod Taking
pub mod Marks
pub mod Starts
pub mod Goings
pub mod Lawful
pub mod ExactlyRead
pub mod Amended
pub mod Further
