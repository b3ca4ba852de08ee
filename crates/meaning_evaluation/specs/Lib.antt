pub mod Named
pub mod Scopes
pub mod Groups
pub mod Bodies
pub mod Calling
pub mod Parameters
pub mod Stages
pub mod Requests
