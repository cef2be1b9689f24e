pub mod Disc
pub mod Writes
