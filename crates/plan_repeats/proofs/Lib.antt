pub mod Adding
pub mod Again
pub mod Calls
pub mod Extending
pub mod NoneMore
pub mod NotOver
pub mod Rerunning
pub mod Twice
