pub mod RunningJobs
