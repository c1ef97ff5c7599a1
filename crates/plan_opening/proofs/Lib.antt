mod FirstRow
mod Opened
pub mod EachRow
pub mod Neighbours
pub mod OneResource
pub mod HeldAmounts
pub mod Bare
pub mod Metas
pub mod Reporting
pub mod Restored
pub mod RowItems
pub mod RowNumbers
mod Ordered
pub mod Same
