pub mod Given
pub mod Rest
pub mod Sizes
pub mod Taken
