pub mod Minutes
pub mod Mentioned
