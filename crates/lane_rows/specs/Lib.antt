pub mod Butterflies
pub mod Lanes
pub mod Rows
