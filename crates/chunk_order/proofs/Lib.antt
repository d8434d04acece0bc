pub mod Orders
pub mod Sentences
