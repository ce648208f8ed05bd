pub mod ExactBounds
pub mod RoundedBounds
pub mod Operands
pub mod Numbers
pub mod Verdicts
