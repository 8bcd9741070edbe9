pub mod Lines
pub mod TraceLine
pub mod Printed
pub mod Connections
pub mod Wire
pub mod Peers
