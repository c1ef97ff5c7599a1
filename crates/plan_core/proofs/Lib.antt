pub mod Answering
pub mod FromPlace
pub mod OccViews
pub mod OpViews
pub mod Provided
pub mod ReadyViews
pub mod Seen
mod Naming
