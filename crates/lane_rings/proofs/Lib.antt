pub mod Batches
mod Judged
mod Windows
