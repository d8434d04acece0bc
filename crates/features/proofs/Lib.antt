pub mod Fields
pub mod Codes
mod Examples
