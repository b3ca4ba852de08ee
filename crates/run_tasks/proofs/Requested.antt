pub mod Asked
pub mod Refused
