pub use Rattle.special_resources
pub mod Numerals
pub mod Parts
pub mod Items
