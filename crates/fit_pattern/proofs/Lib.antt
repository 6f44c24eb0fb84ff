pub mod Packed
pub mod Flat
pub mod Windows
pub mod Patch
