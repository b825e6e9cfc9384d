pub mod Own
pub mod Rule
pub mod Steps
pub mod PassState
