pub mod Covers
pub mod Examples
