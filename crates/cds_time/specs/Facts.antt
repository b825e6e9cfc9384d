-- What follows from the definitions, for those who prove more of a time's octets.
pub mod Octets
