pub mod Bests
pub mod Sliding
pub mod Rating
