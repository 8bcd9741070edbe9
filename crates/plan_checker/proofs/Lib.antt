pub mod Fair
pub mod Proved
pub mod Above
pub mod Plans
