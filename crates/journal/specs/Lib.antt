pub mod Passing
pub mod File
pub mod Laws
pub mod Resuming
pub mod Saved
pub mod Alike
pub mod Resubmitting
pub mod Pausing
