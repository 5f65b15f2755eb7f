pub mod Places
pub mod Numbered
