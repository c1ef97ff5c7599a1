pub use Rattle.plan_records.specs.plan_drafts
pub use Rattle.plan_records
pub use Rattle.ready_list
pub mod Additions
pub mod Intervals
pub mod Markings
