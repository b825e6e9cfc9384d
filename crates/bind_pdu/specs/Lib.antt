pub mod Binding
pub mod Unbinding
pub mod Aborting
pub mod Seen
