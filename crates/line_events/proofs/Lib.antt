pub mod Lists
pub mod Forms
pub mod Progress
pub mod Starts
mod Radiating
