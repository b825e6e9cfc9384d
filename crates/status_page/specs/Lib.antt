pub mod Numbers
pub mod Json
pub mod Metrics
pub mod Answers
