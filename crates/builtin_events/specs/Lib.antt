pub mod Facts
pub mod Heard
pub mod Laws
pub mod RaiseLaws
pub mod Raised
pub mod Raises
pub mod Source
