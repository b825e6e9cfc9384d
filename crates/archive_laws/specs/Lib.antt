pub mod Calls
pub mod Stores
