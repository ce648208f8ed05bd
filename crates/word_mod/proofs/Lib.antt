pub mod Remainder
pub mod Reciprocal
pub mod Euclid
pub mod Power
pub mod Shift
