pub mod Told
pub mod Coincide
