pub mod InWorld
