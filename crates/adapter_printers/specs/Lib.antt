pub mod IoOutcome
pub mod TaskOutcome
