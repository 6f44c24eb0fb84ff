pub mod Weights
pub mod Pieces
pub mod Leaning
pub mod Coincide
