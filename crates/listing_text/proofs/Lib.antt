pub mod Setting
pub mod Telling
pub mod Whole
pub mod Standing
pub mod Coincide
