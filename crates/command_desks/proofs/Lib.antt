mod NewDesks
pub mod Unloaded
