pub mod Chains
pub mod Groups
pub mod State
pub mod Closer
pub mod Along
pub mod Promise
pub mod OffChains
