pub mod Counting
pub mod Valid
pub mod CountLines
pub mod Kept
