pub mod Lowest
pub mod Others
pub mod Answers
pub mod Sentences
