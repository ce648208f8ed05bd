pub mod DrawnWords
pub mod PublicWords
