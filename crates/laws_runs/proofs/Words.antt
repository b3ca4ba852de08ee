pub mod Within
pub mod Alike
pub mod Renaming
