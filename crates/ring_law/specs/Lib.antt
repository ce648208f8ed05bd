pub mod Sums
pub mod Residues
pub mod Moduli
pub mod Polynomials
pub mod Rows
pub mod Transform
pub mod Lists
