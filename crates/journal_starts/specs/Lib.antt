pub mod Mentions
pub mod Lines
