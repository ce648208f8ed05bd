pub mod Grid
pub mod Rounding
pub mod Digits
pub mod Closed
pub mod Operations
pub mod Numbers
