pub use Rattle.report_lines
pub mod Pieces
pub mod Beginnings
pub mod Refusals
pub mod Looks
pub mod Laws
