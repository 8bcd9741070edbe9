pub mod Check
pub mod Place
