pub mod Among
pub mod Calls
pub mod Sessions
pub mod Doors
pub mod Publishing
pub mod Workers
pub mod Runs
pub mod Calling
