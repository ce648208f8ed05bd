pub mod Registers
pub mod Ends
pub mod Places
pub mod Workspaces
pub mod Runs
pub mod Premises
pub mod Steps
