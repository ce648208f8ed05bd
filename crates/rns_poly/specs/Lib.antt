pub mod Rows
pub mod Transforms
