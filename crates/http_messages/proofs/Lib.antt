pub mod Texts
pub mod Guarded
pub mod Fronts
pub mod Answered
pub mod WantedAnswers
pub mod RoutesFound
pub mod Judging
