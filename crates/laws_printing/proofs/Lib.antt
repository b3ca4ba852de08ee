pub mod Distinct
pub mod Formatted
pub mod Formatting
pub mod Printing
pub mod Reformatted
