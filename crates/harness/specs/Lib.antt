pub mod Harness
