pub mod Beside
pub mod Fair
pub mod Verdict
pub mod Plan
