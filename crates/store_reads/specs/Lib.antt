pub mod Cells
pub mod Operations
pub mod Receipts
pub mod Rows
pub mod Tables
pub mod Versions
pub mod Reads
