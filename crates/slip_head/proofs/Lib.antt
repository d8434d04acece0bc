pub mod Writes
pub mod Forms
