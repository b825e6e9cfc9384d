pub mod Laws
pub mod Lossless
pub mod Delivered
