pub mod Bindings
pub mod Reading
pub mod Report
pub mod Plan
pub mod Answers
pub mod Plain
pub mod Batches
pub mod Commanded
