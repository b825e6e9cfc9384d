pub mod Raf
