pub mod Sentences
pub mod Overs
pub mod Passing
pub mod Skipping
pub mod EntrySlides
pub mod Placing
mod Examples
