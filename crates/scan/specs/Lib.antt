pub mod Run
pub mod Columns
pub mod Line
pub mod Rows
