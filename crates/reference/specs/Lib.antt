pub mod Means
pub mod Conditions
pub mod Parts
pub mod Does
pub mod Plain
