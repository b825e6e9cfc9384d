pub mod Tests
pub mod Secrets
pub mod Identifiers
pub mod Checks
pub mod Steps
pub mod Runs
