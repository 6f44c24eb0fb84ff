pub mod Crossing
pub mod Coincide
