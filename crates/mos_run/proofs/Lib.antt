pub mod Scripts
pub mod Files
pub mod Outcomes
pub mod Below
pub mod Gathering
pub mod Chosen
mod ReadBack
