pub mod Found
pub mod Defined
pub mod Standing
pub mod Named
pub mod Modules
pub mod Paths
pub mod Aliases
