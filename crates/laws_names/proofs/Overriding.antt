pub mod Places
pub mod Numbers
pub mod Standing
pub mod Found
pub mod Texts
