pub mod Variants
pub mod Symmetry
pub mod Coincide
