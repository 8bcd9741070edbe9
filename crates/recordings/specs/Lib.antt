pub mod Data
pub mod Lines
pub mod Noting
