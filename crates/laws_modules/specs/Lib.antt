pub mod Compiled
pub mod Definitions
pub mod Files
pub mod Modules
pub mod Names
pub mod References
pub mod Submodules
pub mod Matching
