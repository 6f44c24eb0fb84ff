pub mod Whole
pub mod Coincide
pub mod Numbers
