mod Appended
pub mod FirstLines
mod Minutes
pub mod Opened
pub mod Statuses
