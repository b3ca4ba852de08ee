pub mod Opened
pub mod Openings
pub mod Entered
pub mod Steps
pub mod Told
pub mod Running
pub mod Begun
