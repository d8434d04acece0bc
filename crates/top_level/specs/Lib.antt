pub mod Steps
pub mod TopLevel
