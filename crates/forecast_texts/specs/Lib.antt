pub use Rattle.plan_outlooks
pub mod Columns
pub mod Hands
pub mod Texts
