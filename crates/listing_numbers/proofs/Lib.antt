pub mod Reading
pub mod Meaning
pub mod Coincide
pub mod Cases
