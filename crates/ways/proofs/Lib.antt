mod Top
mod Trees
mod Shapes
pub mod Answers
pub mod Agree
pub mod Walked
