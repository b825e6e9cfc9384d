mod Gaining
mod Replayed
mod Readings
