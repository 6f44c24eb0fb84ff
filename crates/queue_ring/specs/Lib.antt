pub mod Slots
pub mod Waiting
