pub mod Steps
pub mod Radiating
