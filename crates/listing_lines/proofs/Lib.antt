pub mod Written
pub mod Texts
pub mod Coincide
pub mod Cases
