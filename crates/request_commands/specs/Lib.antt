pub mod Asked
pub mod Databases
pub mod Loads
pub mod Turns
pub mod Replays
