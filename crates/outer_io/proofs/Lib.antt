pub mod Names
pub mod Places
pub mod Sinking
pub mod Reading
pub mod Buffers
