pub mod Shown
pub mod Whys
pub mod Prospects
