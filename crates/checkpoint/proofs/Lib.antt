pub mod Joins
pub mod WordsBack
pub mod Signs
pub mod Spots
