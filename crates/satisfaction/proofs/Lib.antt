pub mod Journals
pub mod Counting
pub mod Cascades
pub mod Clearings
pub mod Lowerings
