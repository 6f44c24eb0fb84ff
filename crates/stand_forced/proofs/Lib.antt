pub mod Steps
pub mod Box
pub mod Waiting
pub mod Lays
pub mod Moves
pub mod Measure
