pub mod ByNumber
pub mod Hooks
pub mod Padded
pub mod Taken
