pub mod SecondReading
pub mod Contents
pub mod Writing
