pub mod Next
pub mod Rows
pub mod Keys
pub mod IndexState
pub mod Walking
pub mod Look
