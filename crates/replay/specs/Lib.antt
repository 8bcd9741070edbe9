pub mod Log
pub mod Peers
pub mod Playing
pub mod Replay
pub mod Acting
pub mod OneRun
