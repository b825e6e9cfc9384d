pub mod Shown
pub mod MemoryDoor
