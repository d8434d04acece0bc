pub mod And
pub mod Counting
