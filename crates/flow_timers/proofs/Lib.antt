pub mod Entries
pub mod Ties
pub mod Due
