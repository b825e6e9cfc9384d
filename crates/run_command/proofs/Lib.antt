mod Sites
mod Passes
