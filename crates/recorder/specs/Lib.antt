pub mod Feeds
pub mod MemoryFrames
pub mod Polling
pub mod Offers
pub mod Steps
