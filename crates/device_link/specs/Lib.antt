pub mod Line
pub mod Stream
pub mod Orders
