pub mod Fault
pub mod Told
pub mod FailingCalls
pub mod Taken
pub mod Written
pub mod Writing
pub mod Doubles
pub mod Adapters
