pub mod Film
pub mod Sentences
pub mod Signs
pub mod Turns
