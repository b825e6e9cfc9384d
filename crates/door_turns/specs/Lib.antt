pub mod Visits
pub mod Working
pub mod Doors
