pub mod JobState
pub mod Job
pub mod Impressions
pub mod JobStep
pub mod Reasons
