pub mod Answered
pub mod Came
pub mod Causes
pub mod Fitting
pub mod Streaming
pub mod Taken
