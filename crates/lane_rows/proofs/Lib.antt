pub mod ButterflyLemmas
pub mod Fours
pub mod LaneLists
pub mod Residues
pub mod Shoup
pub mod Stores
