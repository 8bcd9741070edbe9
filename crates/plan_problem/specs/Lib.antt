pub mod Time
pub mod Class
pub mod ClassJob
pub mod Alike
pub mod Able
pub mod Cause
