pub mod Kept
pub mod Reached
pub mod Unreached
pub mod Meaning
pub mod Below
pub mod Worlds
