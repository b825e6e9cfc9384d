pub mod Sent
pub mod AntennaSim
