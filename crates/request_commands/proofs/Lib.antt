mod Loaded
pub mod LoadedDatabases
mod Played
mod Told
mod Replayed
