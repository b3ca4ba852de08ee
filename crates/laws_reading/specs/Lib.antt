pub mod Tokens
pub mod Worlds
pub mod Words
