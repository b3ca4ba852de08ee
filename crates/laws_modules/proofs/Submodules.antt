pub mod Folders
pub mod Meant
pub mod Ranks
pub mod Finding
pub mod Files
pub mod Refusing
