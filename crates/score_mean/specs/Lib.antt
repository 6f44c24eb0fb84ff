pub mod Box
pub mod Fits
