pub mod Fields
pub mod Laws
pub mod Records
pub mod EitherForm
pub mod Pen
pub mod Cases
pub mod Section
