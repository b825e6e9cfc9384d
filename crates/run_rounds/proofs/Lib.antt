pub mod Filling
pub mod Sessions
pub mod Working
pub mod Showing
pub mod Doors
pub mod Staying
pub mod Joining
mod Handing
