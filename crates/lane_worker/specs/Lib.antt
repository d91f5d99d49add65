pub mod Steps
pub mod Worked
pub mod Given
pub mod Turning
