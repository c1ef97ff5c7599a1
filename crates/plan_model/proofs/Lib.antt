pub mod Entries
pub mod Looks
pub mod Members
pub mod Taking
