pub mod Added
pub mod Sentences
pub mod Standing
pub mod Ending
pub mod Doing
pub mod Beginnings
pub mod Prepared
pub mod Requested
