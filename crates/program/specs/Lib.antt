pub mod Input
pub mod ExitStatus
pub mod Output
pub mod RefusedSettings
