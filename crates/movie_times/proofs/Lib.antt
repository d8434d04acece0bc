pub mod Headers
pub mod Stored
pub mod Answers
