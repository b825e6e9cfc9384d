pub mod Parts
pub mod FirstLines
pub mod Settings
pub mod Heads
