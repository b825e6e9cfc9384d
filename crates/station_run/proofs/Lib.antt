mod Seats
mod Results
mod Starting
