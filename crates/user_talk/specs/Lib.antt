pub mod Outbox
pub mod Readings
pub mod Rounds
pub mod Ending
pub mod Running
pub mod Closing
pub mod Closed
pub mod Laws
