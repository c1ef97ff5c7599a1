pub mod Connections
pub mod Following
pub mod Seen
pub mod Ticks
pub mod Waits
