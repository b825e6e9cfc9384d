pub mod Causes
pub mod Input
pub mod Sending
pub mod Service
pub mod Streams
pub mod Telling
