pub mod TextFaults
pub mod AddedFaults
pub mod AddedTexts
