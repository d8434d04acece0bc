pub mod Examples
pub mod Rising
pub mod Skipped
