pub use Rattle.text_faults
pub mod Beside
pub mod Whole
pub mod Limits
pub mod Judged
pub mod Warned
