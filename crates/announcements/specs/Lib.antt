pub mod Port
pub mod Printer
pub mod Records
pub mod Xml
pub mod Group
