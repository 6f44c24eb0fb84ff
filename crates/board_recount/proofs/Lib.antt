pub mod Recounts
pub mod Whole
pub mod Leaning
pub mod Coincide
