mod Steps
mod Refusals
mod Fits
mod Bounds
mod Back
mod Puts
mod Fresh
