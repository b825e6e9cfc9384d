pub mod Scripts
pub mod Entries
pub mod Transcripts
pub mod Forms
