pub mod Copies
pub mod Again
