pub mod Leading
pub mod Calling
pub mod Acts
pub mod Recording
pub mod Walking
pub mod Owning
pub mod Running
pub mod Beside
