mod Words
mod Combinations
mod TransformedRows
