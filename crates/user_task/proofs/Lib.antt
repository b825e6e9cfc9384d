pub mod Fits
pub mod Invocations
