pub mod Called
pub mod Tables
pub mod Depth
pub mod Examples
pub mod Assigning
