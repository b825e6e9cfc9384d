pub mod Lengths
pub mod Contents
pub mod Steps
pub mod Reading
pub mod Fit
