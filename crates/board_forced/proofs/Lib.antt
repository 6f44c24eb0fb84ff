pub mod Leaning
pub mod Coincide
