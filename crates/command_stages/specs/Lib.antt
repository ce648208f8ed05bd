pub mod Operands
pub mod Causes
pub mod Stages
