mod Stopping
mod Explaining
mod Exits
mod Forwarding
