pub mod Invocation
pub mod Service
pub mod Returns
pub mod Telling
pub mod Causes
