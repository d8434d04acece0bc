pub mod Asked
pub mod Samples
pub mod Said
pub mod Asking
