pub mod Mapped
pub mod Laws
