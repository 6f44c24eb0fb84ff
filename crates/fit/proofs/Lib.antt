pub mod Accepted
pub mod Coincide
pub mod Choices
