pub mod Status
pub mod Target
pub mod Event
pub mod Effects
pub mod SameEvent
