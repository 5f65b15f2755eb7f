-- The index of the claim. The calls on a record, the calls on a line; what is true of what the resolvers accept; that what is written reads back; that
-- a heading reads what the standard says; the matcher, its chains as lists and where it stands; that ASCII documents are answered as before; the twelve cases of
-- document 01. Statements alone: proofs/ has a proof of each, and the cases are computed where they stand. src/ ties them to the calls.
pub mod Told
pub mod Records
pub mod Lines
pub mod Accepted
pub mod ReadsBack
pub mod Titles
pub mod EitherForm
pub mod ChainsAsLists
pub mod Positions
pub mod Matcher
pub mod AsBefore
pub mod Cases
