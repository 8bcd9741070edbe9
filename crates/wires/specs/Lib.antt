pub mod Poll
pub mod Door
pub mod MemoryPeer
pub mod MemoryWire
