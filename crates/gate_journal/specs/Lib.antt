pub mod File
pub mod Reading
pub mod JournalState
pub mod Order
pub mod Passing
pub mod Batches
