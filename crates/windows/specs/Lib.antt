pub mod Lengths
pub mod Windows
