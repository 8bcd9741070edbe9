pub mod Prefixes
pub mod Readers
pub mod Loads
pub mod Entries
pub mod Choices
pub mod Keys
