pub mod State
pub mod Acknowledges
pub mod Faults
pub mod Run
