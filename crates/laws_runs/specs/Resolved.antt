pub mod Definitions
pub mod Modules
pub mod Kept
pub mod Assigned
