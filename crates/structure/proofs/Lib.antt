pub mod Rows
pub mod Earlier
pub mod Places
pub mod Callers
pub mod Lengths
pub mod Or
