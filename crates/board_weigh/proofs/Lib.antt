pub mod Adding
pub mod Weighed
