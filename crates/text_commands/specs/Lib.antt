pub mod Beside
pub mod Besides
pub mod Judged
