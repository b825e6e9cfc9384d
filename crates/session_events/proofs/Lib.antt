mod Rounds
mod Asking
pub mod Kept
mod Starts
