pub mod Signing
pub mod Content
pub mod Fitting
pub mod Message
pub mod Measured
pub mod Laws
