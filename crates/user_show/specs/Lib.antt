pub mod Ending
pub mod Closing
