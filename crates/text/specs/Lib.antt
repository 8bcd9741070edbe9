pub mod Digits
pub mod FirstLine
pub mod Parts
pub mod Steps
pub mod Trimmed
