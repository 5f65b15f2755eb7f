pub mod Spaces
pub mod Item
pub mod Going
pub mod Standard
pub mod Laws
pub mod Cases
