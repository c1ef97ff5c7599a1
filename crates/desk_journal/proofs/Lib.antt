pub mod Plain
pub mod TextsOf
pub mod Told
pub mod Ending
