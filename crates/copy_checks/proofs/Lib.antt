pub mod Sides
pub mod Copied
