pub mod Stretches
pub mod Spans
pub mod Said
