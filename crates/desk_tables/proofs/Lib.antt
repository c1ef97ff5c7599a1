pub mod ErrorLists
pub mod Held
pub mod Answered
pub mod Running
pub mod InRange
pub mod Opened
pub mod BroughtUp
pub mod Stopped
pub mod Told
pub mod FoundAgain
mod Rooms
mod Receipts
pub mod PreparedSteps
