pub mod Slots
pub mod Grown
pub mod Growing
