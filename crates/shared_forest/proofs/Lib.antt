pub mod OneListing
pub mod Rows
pub mod FromRootToRoot
pub mod Hearing
