mod Reading
mod Earliest
pub mod Added
pub mod Nesting
mod Shapes
mod Nearest
mod Notings
mod Written
mod Trees
mod Chains
mod Outcomes
pub mod Beginnings
pub mod Offending
pub mod Exactly
mod Pairing
mod Lying
pub mod Once
pub mod Gathering
pub mod Mistakes
mod Linking
pub mod Coming
mod Grouping
pub mod Linked
