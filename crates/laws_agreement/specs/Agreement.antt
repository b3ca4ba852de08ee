pub mod Given
pub mod Kinds
pub mod Readable
pub mod Fitting
pub mod Unasked
pub mod Opened
