pub mod Serving
pub mod Journaling
