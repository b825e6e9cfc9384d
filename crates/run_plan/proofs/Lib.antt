pub mod Digits
pub mod PortsRead
