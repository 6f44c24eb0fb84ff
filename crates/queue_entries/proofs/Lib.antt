pub mod Places
pub mod Entries
pub mod Growth
pub mod Coincide
