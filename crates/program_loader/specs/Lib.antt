pub mod Names
pub mod Folders
