pub mod BytesBefore
pub mod ReadersBefore
pub mod HeadingBefore
pub mod OneReach
pub mod Replaced
pub mod MarksAsIf
pub mod ReadersAsIf
pub mod HeadingAsIf
