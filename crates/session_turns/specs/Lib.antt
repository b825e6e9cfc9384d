pub mod Stepping
pub mod Rounds
pub mod Serving
