pub mod Planning
pub mod Running
pub mod Waiting
pub mod Beginnings
