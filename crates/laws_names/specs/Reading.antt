pub mod Parts
pub mod Meant
pub mod Places
pub mod Told
pub mod Clear
pub mod Cycles
pub mod Carried
pub mod Matching
