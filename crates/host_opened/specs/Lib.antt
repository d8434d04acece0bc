pub mod Handle
pub mod Hands
