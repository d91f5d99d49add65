pub mod Frame
pub mod Tcp
pub mod Flags
pub mod Packet
pub mod Layout
pub mod View
pub mod Options
