mod Images
mod Leading
mod Rounds
mod Lines
mod Radiated
mod Runs
