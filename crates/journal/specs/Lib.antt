pub mod Format
pub mod Walk
pub mod Places
pub mod Decode
pub mod System
pub mod Laws
