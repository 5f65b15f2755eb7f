-- The proofs of the claims, a file for each of specs/, and one for the matcher's way to its answer; the cases are computed there.
pub mod Records
pub mod Lines
pub mod Accepted
pub mod ReadsBack
pub mod Titles
pub mod EitherForm
pub mod ChainsAsLists
pub mod Positions
pub mod OnTheWay
pub mod Matcher
pub mod AsBefore
