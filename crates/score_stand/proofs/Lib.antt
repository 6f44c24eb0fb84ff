pub mod Rescored
pub mod Near
