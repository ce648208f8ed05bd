pub mod Bases
pub mod Sizes
