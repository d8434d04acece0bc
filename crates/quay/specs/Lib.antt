pub mod Quay
pub mod Walk
pub mod Sentences
