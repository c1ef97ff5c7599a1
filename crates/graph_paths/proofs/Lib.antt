pub mod Backwards
pub mod Sifts
pub mod Once
pub mod Firsts
pub mod Ways
