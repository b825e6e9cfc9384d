pub mod Numbered
pub mod Storing
