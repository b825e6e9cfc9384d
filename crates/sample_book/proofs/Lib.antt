pub mod Working
pub mod Seated
