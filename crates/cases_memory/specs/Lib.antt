-- The walk along the chains and a match; the groups that a memory holds.
pub mod Chains
pub mod Groups
