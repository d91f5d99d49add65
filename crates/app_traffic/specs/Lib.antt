pub mod Acct
pub mod Counting
pub mod Laws
pub mod Rexmit
