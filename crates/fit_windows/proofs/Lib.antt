pub mod Accepted
pub mod Kept
pub mod Lists
pub mod Meaning
