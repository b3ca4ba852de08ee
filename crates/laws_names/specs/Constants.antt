pub mod Expressions
pub mod Sought
pub mod Lists
pub mod Variables
pub mod Settings
pub mod Broken
