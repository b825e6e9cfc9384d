pub mod Outside
pub mod Ends
