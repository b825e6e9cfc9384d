pub mod Fits
pub mod ByCauses
pub mod OfQueue
