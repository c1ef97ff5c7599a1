pub use Rattle.desk_tables
pub mod Given
pub mod Loaded
