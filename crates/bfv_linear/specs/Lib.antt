pub mod Plaintexts
pub mod Parts
pub mod Signs
