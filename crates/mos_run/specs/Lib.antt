pub mod Refusal
pub mod Script
pub mod Outcome
pub mod Request
pub mod Explained
pub mod Run
pub mod Runs
pub mod ReadBack
