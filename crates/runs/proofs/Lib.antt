pub mod Cursors
pub mod Entries
pub mod Leasts
pub mod Sentences
pub mod Sums
pub mod Turns
