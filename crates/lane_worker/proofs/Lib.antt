pub mod Fronts
pub mod Rings
mod Stepping
mod Going
pub mod Composed
mod Taking
mod Advancing
mod Turns
mod Serving
mod Judging
pub mod Beside
