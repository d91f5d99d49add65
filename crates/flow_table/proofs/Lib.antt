pub mod Keys
pub mod Entries
pub mod Apart
pub mod Lanes
pub mod Numbers
