pub mod Unprovided
mod Ran
