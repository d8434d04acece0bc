pub mod Films
pub mod Adding
