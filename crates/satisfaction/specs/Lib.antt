pub mod Journal
pub mod Counters
pub mod Changes
