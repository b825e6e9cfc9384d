pub mod Moment
pub mod Octets
pub mod Readings
pub mod Unix
pub mod Facts
