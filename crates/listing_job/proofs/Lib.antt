pub mod Forming
pub mod Meaning
pub mod Coincide
pub mod Cases
