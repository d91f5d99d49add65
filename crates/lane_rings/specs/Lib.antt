pub mod Ring
pub mod Places
pub mod Batch
pub mod Judging
pub mod Answers
pub mod Waiting
