pub mod Ending
pub mod Near
