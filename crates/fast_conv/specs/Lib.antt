pub mod Converters
pub mod Rows
