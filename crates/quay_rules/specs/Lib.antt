pub mod Rules
pub mod Computed
pub mod Sentences
