pub mod Files
pub mod Recovery
pub mod Adding
