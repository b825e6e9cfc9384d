pub mod Running
pub mod Provided
