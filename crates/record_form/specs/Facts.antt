-- What follows from the definitions, for those who prove more of entries.
pub mod Storable
