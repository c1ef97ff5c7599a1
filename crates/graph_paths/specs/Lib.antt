pub mod Upstream
pub mod Walking
pub mod Returns
pub mod Reached
