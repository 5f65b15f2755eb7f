pub mod Wide
pub mod Ascii
