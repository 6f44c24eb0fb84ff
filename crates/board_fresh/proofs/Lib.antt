pub mod Filled
pub mod Coincide
