pub mod Builtins
pub mod Commands
pub mod Facts
pub mod Named
pub mod Places
pub mod Requests
pub mod Sites
pub mod Variables
