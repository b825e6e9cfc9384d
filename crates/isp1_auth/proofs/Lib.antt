pub mod Answers
pub mod Made
pub mod Sizes
pub mod Pieces
