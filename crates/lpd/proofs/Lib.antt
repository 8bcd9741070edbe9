mod Drafts
pub mod Streams
pub mod ReaderPlace
