pub mod Buckets
pub mod Coincide
