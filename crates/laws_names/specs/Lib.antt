pub mod Constants
pub mod Depending
pub mod Overriding
pub mod Reading
