pub mod Selection
pub mod Item
pub mod Want
pub mod Glimpse
