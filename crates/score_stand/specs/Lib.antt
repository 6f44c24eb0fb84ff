pub mod Rescoring
