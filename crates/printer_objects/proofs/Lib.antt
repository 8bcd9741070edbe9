pub mod Searches
pub mod ListedOnce
pub mod Taken
pub mod Spelt
pub mod AskedByName
pub mod NamedMarks
