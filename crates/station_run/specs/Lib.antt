pub mod Workers
pub mod Ran
