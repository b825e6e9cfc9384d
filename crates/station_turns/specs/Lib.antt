pub mod Turned
pub mod Gained
pub mod Reads
pub mod Making
