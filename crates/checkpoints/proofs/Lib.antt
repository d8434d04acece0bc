pub mod Adding
pub mod Tails
pub mod Upto
