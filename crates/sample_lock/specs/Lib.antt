pub mod State
pub mod Ledger
pub mod DeskReport
pub mod Served
pub mod Team
