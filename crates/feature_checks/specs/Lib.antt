pub mod Records
pub mod Features
pub mod Bounds
