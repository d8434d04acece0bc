pub mod Faults
pub mod Sentences
