pub mod Cuts
pub mod Longest
pub mod Again
pub mod Opened
pub mod Lent
pub mod InPlace
pub mod Steps
