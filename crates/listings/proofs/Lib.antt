mod PlacedJobs
mod PrinterGroup
mod JobsByTurn
pub mod RemovalCancels
