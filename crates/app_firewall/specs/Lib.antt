pub mod Decision
pub mod Firewall
pub mod Laws
