pub mod Ready
pub mod Patch
pub mod Packed
