pub mod Box
pub mod Numbers
