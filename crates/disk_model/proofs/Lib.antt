pub mod Patched
pub mod Replay
pub mod Calls
pub mod Runs
pub mod Writes
mod Piecewise
