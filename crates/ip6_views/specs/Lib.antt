pub mod Frame
pub mod Chain
pub mod Packet
pub mod Sight
pub mod Seen
pub mod Laws
