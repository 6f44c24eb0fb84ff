pub mod Normal
pub mod Place
