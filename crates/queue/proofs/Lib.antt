pub mod Wall
pub mod Calls
pub mod Order
pub mod Coincide
