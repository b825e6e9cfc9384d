pub mod Legal
pub mod Tellings
pub mod Serving
pub mod Desks
pub mod Teams
