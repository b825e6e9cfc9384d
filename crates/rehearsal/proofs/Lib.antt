pub mod Octets
pub mod Archives
pub mod Lengths
pub mod Tallies
pub mod Started
pub mod Script
