pub mod Segment
pub mod Direction
pub mod Windows
pub mod Emulation
pub mod Peek
pub mod View
pub mod Laws
pub mod Quiet
