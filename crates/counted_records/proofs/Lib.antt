pub mod LeftRows
pub mod Marked
pub mod RowRules
