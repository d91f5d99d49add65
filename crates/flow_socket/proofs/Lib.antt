pub mod Taking
pub mod Peeking
pub mod Pieces
pub mod Sides
pub mod Phases
pub mod Positions
pub mod PlainSegments
