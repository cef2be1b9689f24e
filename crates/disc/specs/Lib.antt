pub mod Numbers
pub mod Layout
pub mod Block0
pub mod Sizes
pub mod Means
pub mod New
pub mod Texts
pub mod Few
