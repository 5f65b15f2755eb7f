pub mod Heading
pub mod Promise
pub mod Laws
pub mod Rows
pub mod Cases
pub mod Content
pub mod Parted
