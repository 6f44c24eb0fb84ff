pub mod Nearby
pub mod Placing
pub mod Leaning
pub mod Coincide
