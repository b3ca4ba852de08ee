pub mod Names
pub mod Modules
pub mod Targets
pub mod Meant
