pub mod Sides
pub mod Tiled
pub mod Lengths
pub mod Coincide
