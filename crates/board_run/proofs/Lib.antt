pub mod Going
pub mod Showing
pub mod Leaning
pub mod Looping
