pub mod Lossless
pub mod Laws
