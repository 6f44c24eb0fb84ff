pub mod Edges
pub mod Reach
pub mod Coincide
