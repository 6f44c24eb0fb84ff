pub mod Boxes
pub mod Coincide
