pub mod Tables
pub mod Coprimality
pub mod Ciphers
pub mod ScaledPlaintexts
pub mod Parts
pub mod Products
pub mod WrittenParts
