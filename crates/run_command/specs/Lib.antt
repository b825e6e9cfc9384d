pub mod Statuses
pub mod Texts
pub mod Configured
pub mod Ends
