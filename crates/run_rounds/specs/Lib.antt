pub mod Doors
pub mod Sessions
pub mod Links
pub mod Workers
pub mod Rounds
pub mod Laws
