pub mod Sums
pub mod Prefixes
pub mod Owned
pub mod Keeping
pub mod Guards
mod Weights
