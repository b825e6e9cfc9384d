pub mod Work
pub mod Invocation
pub mod Fitting
pub mod Message
pub mod Laws
