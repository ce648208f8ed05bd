pub mod Filled
pub mod RunStages
pub mod Batching
