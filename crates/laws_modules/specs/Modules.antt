pub mod Modules
pub mod Laws
