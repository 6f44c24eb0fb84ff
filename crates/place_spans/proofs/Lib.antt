pub mod Radius
pub mod Spanned
pub mod Coincide
