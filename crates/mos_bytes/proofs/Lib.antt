pub mod Ahead
pub mod Causes
pub mod Moves
pub mod Shelves
pub mod Writes
pub mod Writing
