pub mod Counts
pub mod Span
pub mod Serving
pub mod Answer
pub mod Requested
pub mod Instance
pub mod Fits
