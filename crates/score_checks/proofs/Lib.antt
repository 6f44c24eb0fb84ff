pub mod Accept
pub mod Grouped
