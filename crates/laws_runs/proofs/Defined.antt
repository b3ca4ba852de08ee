pub mod Worded
pub mod Calls
pub mod Defined
