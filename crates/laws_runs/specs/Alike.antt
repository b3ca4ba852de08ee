pub mod Alike
pub mod Cut
