pub mod Region
pub mod Coincide
pub mod Numbers
