pub mod LastTimes
pub mod Offers
pub mod Holding
pub mod Running
pub mod Placing
