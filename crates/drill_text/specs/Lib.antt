pub mod Kinds
pub mod Asks
pub mod Script
pub mod Reading
pub mod Ends
pub mod Transcript
pub mod Texts
