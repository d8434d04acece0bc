pub mod Askable
pub mod Computing
