mod Steps
mod Told
mod Lengths
mod Fits
