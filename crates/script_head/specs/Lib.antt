pub mod Lines
pub mod Head
