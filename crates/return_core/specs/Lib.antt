pub mod Mode
pub mod Item
pub mod Holding
pub mod Course
pub mod Standing
pub mod Visits
pub mod Coming
pub mod Promise
