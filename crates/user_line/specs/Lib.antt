pub mod Line
pub mod Clap
pub mod Laws
