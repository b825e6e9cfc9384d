pub mod Health
