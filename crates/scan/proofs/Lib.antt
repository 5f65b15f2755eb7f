pub mod Leading
pub mod ByteKinds
pub mod Checks
pub mod Blanks
pub mod ExactlyChecked
pub mod InColumns
pub mod Taken
