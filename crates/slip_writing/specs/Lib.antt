pub mod Slips
pub mod Writing
