pub mod Knocks
pub mod Laws
