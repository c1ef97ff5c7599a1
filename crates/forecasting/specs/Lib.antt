pub use Rattle.plan_core
pub mod Adds
pub mod Following
pub mod InMemory
pub mod Known
pub mod Times
pub mod Turns
