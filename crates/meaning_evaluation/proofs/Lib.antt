pub mod Calls
pub mod Bodies
pub mod Examples
pub mod Parameters
pub mod Stages
