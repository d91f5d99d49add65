pub mod Rest
pub mod Given
pub mod OnTheirWay
pub mod Streamed
pub mod Turns
pub mod Compared
