pub mod Distinct
pub mod Formatted
pub mod Formatting
pub mod Printing
