mod Codes
pub mod Judging
