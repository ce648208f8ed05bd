pub mod Blocks
pub mod MiddleRows
pub mod PowersReversed
pub mod LayerValues
pub mod Steps
pub mod InverseRoots
