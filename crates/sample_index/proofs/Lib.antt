pub mod Filled
pub mod Accepted
pub mod Answers
