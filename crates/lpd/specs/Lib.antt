pub mod FileName
pub mod Items
pub mod Command
pub mod Stream
pub mod Control
pub mod ControlLine
pub mod Pending
pub mod Session
