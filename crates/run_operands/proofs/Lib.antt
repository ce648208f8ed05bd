pub mod Places
pub mod BoundReading
pub mod BoundWords
pub mod Demanded
pub mod InOrder
