pub mod Refusals
pub mod MovieRows
pub mod Judging
