pub mod Step
pub mod Laws
pub mod Fits
