mod DigitValues
pub mod Positions
pub mod FirstLines
pub mod Splits
mod Rests
pub mod Chains
pub mod Cuts
