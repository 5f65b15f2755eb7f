pub mod Accepted
pub mod Tiling
pub mod Others
pub mod Theorems
pub mod Cases
