pub mod Listed
pub mod Alone
pub mod Entries
pub mod Round
pub mod Accepted
pub mod Coincide
