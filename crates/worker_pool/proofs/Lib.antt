pub mod Inputs
pub mod Reading
pub mod Source
mod Handing
mod Dealing
mod Answering
pub mod Standing
mod AllLanes
pub mod Making
pub mod Concluding
mod LaneEnds
mod Returned
mod Rows
mod Starting
mod Crossed
mod Onward
pub mod Walking
pub mod Telling
