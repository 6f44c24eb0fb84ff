pub mod Stored
pub mod Coincide
