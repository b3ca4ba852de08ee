pub mod Justfile
pub mod Laws
