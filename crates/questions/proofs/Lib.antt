mod Standing
pub mod Asking
pub mod Found
pub mod Said
pub mod Shift
pub mod Own
pub mod Numbered
