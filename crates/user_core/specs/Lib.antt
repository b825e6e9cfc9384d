pub mod Event
pub mod Course
pub mod Dialogue
pub mod Hearing
pub mod Turn
pub mod Laws
