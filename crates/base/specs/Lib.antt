pub mod Counting
pub mod Tables
pub mod Regions
pub mod Refusal
pub mod Lent
pub mod Whole
