pub mod Blanks
pub mod Joining
pub mod Keeping
pub mod Told
pub mod Listing
pub mod SameReceipt
