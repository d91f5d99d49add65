pub mod First
pub mod Anywhere
pub mod Skipped
