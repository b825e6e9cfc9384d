-- What follows from the definitions, for those who prove more of what a disk may hold.
pub mod Images
