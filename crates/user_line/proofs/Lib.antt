pub mod Split
pub mod Walked
pub mod Read
pub mod Forms
pub mod Values
