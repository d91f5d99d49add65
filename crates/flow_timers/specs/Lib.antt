pub mod Moments
pub mod Notes
pub mod Deadlines
