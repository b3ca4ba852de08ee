pub mod Exact
pub mod Groups
pub mod Invoking
pub mod Names
pub mod Naming
pub mod Paths
pub mod Taken
