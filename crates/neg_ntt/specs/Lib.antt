pub mod Butterflies
pub mod Layers
pub mod Parameters
pub mod Roots
pub mod Tables
