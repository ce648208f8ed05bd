pub mod Plain
pub mod ReadLines
pub mod Commands
