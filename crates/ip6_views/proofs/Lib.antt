pub mod Walk
pub mod PlainFrame
