mod Leading
mod Turning
mod Living
mod Outcomes
mod Fits
mod Listing
mod Running
