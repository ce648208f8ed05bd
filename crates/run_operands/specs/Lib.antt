pub mod BoundFiles
pub mod BoundReads
pub mod Demands
pub mod Ordered
