pub mod LateLists
pub mod OneText
pub mod Whys
