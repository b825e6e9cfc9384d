pub mod Readable
pub mod Rounds
pub mod NextLook
pub mod Unsigned
pub mod Advancing
pub mod Saying
