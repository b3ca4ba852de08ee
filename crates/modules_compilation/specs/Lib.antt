pub mod Places
pub mod Refusals
pub mod Paths
pub mod Modulepaths
pub mod Tables
pub mod Fronts
