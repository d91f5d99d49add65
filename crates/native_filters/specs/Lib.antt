pub mod Facts
pub mod Native
pub mod Hook
