pub mod Again
pub mod Handed
