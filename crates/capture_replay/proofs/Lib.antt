pub mod Ends
pub mod Following
pub mod Closing
pub mod Reading
pub mod Replaying
pub mod Refusals
pub mod Ceilings
pub mod Joined
pub mod Forwarding
mod Passed
pub mod Typed
mod ReadBack
pub mod InPlace
pub mod Onward
