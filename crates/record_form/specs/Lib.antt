pub mod Entry
pub mod Lent
pub mod Spelling
pub mod Left
pub mod Reading
pub mod Facts
