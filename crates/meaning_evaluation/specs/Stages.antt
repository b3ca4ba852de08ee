pub mod Stages
pub mod Lines
pub mod Parameters
pub mod Assigned
