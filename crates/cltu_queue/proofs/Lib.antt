pub mod Cases
pub mod Turns
pub mod Lawful
pub mod Aloft
pub mod Sound
pub mod InTurn
pub mod Notified
