mod Batches
mod Given
mod Leaving
mod Turning
mod Ending
mod Comparing
