pub use Rattle.plan_laws
pub mod Ahead
pub mod Laws
pub mod Starts
