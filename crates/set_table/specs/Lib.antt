pub mod Sets
pub mod Roots
