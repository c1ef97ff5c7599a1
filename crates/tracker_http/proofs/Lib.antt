pub mod Ended
mod Continuing
mod Unguarded
mod Breaking
pub mod Faulted
