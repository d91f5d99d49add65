pub mod Forward
pub mod Explained
pub mod Streaming
