pub mod Bytes
pub mod Plain
pub mod Cases
