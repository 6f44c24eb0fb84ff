pub mod Region
