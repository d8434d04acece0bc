mod Answers
pub mod Sentences
