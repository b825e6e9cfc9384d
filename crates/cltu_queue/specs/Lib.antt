pub mod Limits
pub mod Times
pub mod Machine
pub mod Forward
pub mod Run
pub mod Parts
pub mod CltuFault
