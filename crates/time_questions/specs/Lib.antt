pub mod Times
pub mod Said
