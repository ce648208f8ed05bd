pub mod Store
pub mod Sink
pub mod Memory
pub mod Held
pub mod Real
