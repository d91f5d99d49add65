pub mod Offers
pub mod Words
pub mod Own
pub mod Usage
pub mod Found
pub mod Command
