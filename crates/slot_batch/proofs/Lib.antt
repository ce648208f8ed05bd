pub mod Digits
pub mod PlaceSteps
pub mod Rows
pub mod Plaintexts
