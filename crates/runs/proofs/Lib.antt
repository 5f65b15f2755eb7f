pub mod AsWritten
pub mod Marks
pub mod OneChain
pub mod Firsts
pub mod MarkerBytes
pub mod Neighbours
