pub mod WordAt
pub mod NameBytes
pub mod Pieces
pub mod Turns
