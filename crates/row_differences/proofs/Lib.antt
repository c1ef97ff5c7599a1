mod Numbers
pub mod Merging
pub mod Picked
pub mod RowsChanged
pub mod Joined
mod EqualValues
mod Making
