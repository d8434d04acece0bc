pub mod Mapping
