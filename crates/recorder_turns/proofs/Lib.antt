pub mod Broken
pub mod Going
