pub mod Digits
pub mod Each
pub mod Fitting
pub mod Identifiers
pub mod Parts
