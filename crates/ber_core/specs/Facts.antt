-- What follows from the definitions, for those who prove more of a tree, a spelling or a reading.
pub mod Lengths
pub mod Canonical
pub mod Integers
pub mod Numbers
pub mod Ends
pub mod Identifiers
pub mod Prefixes
pub mod Found
pub mod Twos
pub mod Read
pub mod Moves
pub mod Whole
