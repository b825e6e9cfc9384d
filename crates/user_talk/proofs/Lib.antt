pub mod Told
pub mod Octets
pub mod Handed
pub mod Turned
pub mod Running
pub mod Made
pub mod Polled
