pub mod Settings
pub mod Fault
pub mod Entry
pub mod Device
pub mod Printer
pub mod Reading
