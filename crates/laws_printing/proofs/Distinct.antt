pub mod Names
pub mod Texts
pub mod Worlds
pub mod Places
