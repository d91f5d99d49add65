mod Lowest
mod Merged
mod Kept
mod Latest
