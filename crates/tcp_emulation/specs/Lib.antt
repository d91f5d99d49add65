pub mod States
pub mod Ends
pub mod Laws
