pub mod Events
pub mod Users
pub mod Seen
pub mod Script
