pub mod Calls
pub mod Defined
