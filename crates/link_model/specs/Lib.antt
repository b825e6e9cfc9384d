pub mod Calls
pub mod Counts
pub mod Steering
pub mod MemoryLink
pub mod Run
