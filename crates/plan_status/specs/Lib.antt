pub use Rattle.plan_laws
pub use Rattle.plan_model
pub use Rattle.status_rules
pub use Rattle.plan_model.specs.workstations
pub mod Standings
pub mod Incoming
pub mod OneMore
pub mod Summaries
