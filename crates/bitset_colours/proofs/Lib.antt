pub mod Digits
pub mod Words
pub mod Colours
pub mod Calls
pub mod Coincide
