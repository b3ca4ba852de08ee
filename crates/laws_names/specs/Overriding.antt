pub mod Variables
pub mod Texts
