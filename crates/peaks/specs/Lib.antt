pub mod Peaks
pub mod Slides
pub mod EntrySlides
