pub mod Records
pub mod Texts
pub mod TextRecords
pub mod Denoting
pub mod Lines
pub mod Places
