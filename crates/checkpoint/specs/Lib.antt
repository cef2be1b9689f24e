pub mod Words
pub mod Body
pub mod Reading
pub mod Faults
