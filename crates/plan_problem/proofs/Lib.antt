pub mod Places
pub mod Rows
pub mod Filters
pub mod Stages
pub mod Causes
