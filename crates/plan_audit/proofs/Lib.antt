mod Prefixes
pub mod Slots
