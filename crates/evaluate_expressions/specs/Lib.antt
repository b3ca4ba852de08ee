pub mod Failures
pub mod Interpreters
pub mod Known
pub mod Situations
