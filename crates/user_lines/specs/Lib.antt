pub mod Tag
pub mod Told
pub mod Lines
pub mod Shown
