pub mod Store
pub mod Answers
pub mod Cells
pub mod Meaning
pub mod Coincide
