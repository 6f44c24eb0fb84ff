pub mod Turn
pub mod Coincide
