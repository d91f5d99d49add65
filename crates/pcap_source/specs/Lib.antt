pub mod Captured
pub mod Capture
pub mod InPlace
pub mod Laws
pub mod Order
pub mod Reading
pub mod Stepping
