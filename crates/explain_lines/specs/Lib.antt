pub mod Transcribed
pub mod Kinds
pub mod Stream
