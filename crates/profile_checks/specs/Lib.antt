pub mod Checks
pub mod Sentences
