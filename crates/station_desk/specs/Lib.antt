pub mod ToldBuffer
pub mod Start
pub mod Readable
pub mod Cursor
