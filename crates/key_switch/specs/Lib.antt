pub mod Memory
pub mod Providers
pub mod Sums
pub mod Switching
