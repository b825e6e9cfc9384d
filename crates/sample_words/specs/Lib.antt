pub mod Picks
pub mod Script
