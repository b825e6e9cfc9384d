pub mod Frames
pub mod Counts
pub mod Rehearsal
pub mod Script
