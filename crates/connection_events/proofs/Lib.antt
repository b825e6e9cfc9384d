mod Doors
mod Rounds
mod Serving
mod Staying
mod Lines
mod Lists
mod Past
mod InWorld
