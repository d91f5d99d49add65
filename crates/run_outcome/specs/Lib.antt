pub mod Greatest
pub mod Rising
pub mod Lanes
pub mod Whole
pub mod Totals
pub mod Allowed
pub mod Forwarded
