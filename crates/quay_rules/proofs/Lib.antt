pub mod Turns
pub mod Groups
pub mod Zeros
pub mod Frames
pub mod Sentences
