pub mod Differences
pub mod Fronts
pub mod Changes
pub mod Rows
