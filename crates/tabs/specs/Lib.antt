pub mod BytesBefore
pub mod ReadersBefore
pub mod HeadingBefore
pub mod Replaced
pub mod ReadersAsIf
pub mod HeadingAsIf
