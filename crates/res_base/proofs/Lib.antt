pub mod Products
pub mod Coprimality
pub mod Bases
pub mod Roots
pub mod Sizes
