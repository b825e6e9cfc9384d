mod Fits
mod Whole
mod FcltuServed
mod Starts
