pub mod Tables
pub mod FileRows
pub mod ListedWords
pub mod RowWords
pub mod Contents
