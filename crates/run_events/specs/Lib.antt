pub mod Stores
pub mod Turns
pub mod Runs
pub mod Beside
pub mod Laws
