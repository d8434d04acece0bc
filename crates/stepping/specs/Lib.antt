pub mod Parts
pub mod Stepping
