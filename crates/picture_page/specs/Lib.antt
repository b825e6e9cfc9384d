pub mod Escape
pub mod Attributes
pub mod Content
pub mod Sheet
pub mod Meta
