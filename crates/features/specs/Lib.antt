pub mod Features
