pub mod Decimals
pub mod States
pub mod Input
