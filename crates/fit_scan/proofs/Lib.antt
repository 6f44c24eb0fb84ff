pub mod Search
pub mod Accepted
pub mod First
pub mod Coincide
