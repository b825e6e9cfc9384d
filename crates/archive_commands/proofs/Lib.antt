pub mod Lists
pub mod Gathering
pub mod ListOutcomes
pub mod Frames
pub mod Blocks
