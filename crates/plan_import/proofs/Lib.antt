pub mod Rows
pub mod Saying
pub mod Fields
pub mod Taken
pub mod DenotingLaws
pub mod LineLaws
pub mod Marks
