pub mod Steps
pub mod Recording
