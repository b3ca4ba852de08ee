pub mod Faults
pub mod Functions
pub mod ItemReferences
pub mod Numbered
pub mod Places
pub mod References
pub mod Seen
pub mod Said
