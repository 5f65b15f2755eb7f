pub mod Parts
pub mod Found
pub mod Pieces
pub mod ClosingTurn
pub mod OpeningTurn
pub mod RunParts
pub mod Instead
pub mod EventTurn
