pub mod Examples
pub mod Naively
