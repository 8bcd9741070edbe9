-- the definitions of public clauses
pub mod NamedPlan
pub mod Writing
pub mod Summary
pub mod Ranges
pub mod TextOf
pub mod Reading
pub mod Whole
-- the definitions of private functions, of lines and of a reader's steps
pub mod Word
pub mod Line
pub mod Steps
