pub mod Going
pub mod Unknown
