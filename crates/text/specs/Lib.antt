pub mod Lines
pub mod Words
pub mod Entries
pub mod Setups
