pub mod Frames
pub mod Fitting
pub mod Plain
pub mod Rooms
