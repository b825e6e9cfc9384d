pub mod Places
pub mod Printed
pub mod Rests
pub mod Spoken
pub mod Steps
pub mod Turns
pub mod Asked
