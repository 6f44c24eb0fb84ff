pub mod Whole
pub mod Accept
pub mod Coincide
pub mod Numbers
pub mod Total
