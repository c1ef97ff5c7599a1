pub use Rattle.request_json
pub mod Answers
pub mod Given
pub mod Lines
pub mod Opened
pub mod Statuses
pub mod Words
