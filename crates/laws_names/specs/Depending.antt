pub mod Meant
pub mod Dependencies
pub mod Cycles
