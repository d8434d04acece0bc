pub mod Chunks
pub mod Computed
pub mod Cursors
