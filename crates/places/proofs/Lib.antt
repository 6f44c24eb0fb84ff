pub mod Wide
pub mod Indices
pub mod Coincide
