pub mod Table
pub mod Turns
pub mod Frames
pub mod Made
pub mod Laws
pub mod Sent
