pub mod Fronts
pub mod Labels
pub mod Values
pub mod Texts
pub mod Stages
pub mod Naming
pub mod Own
