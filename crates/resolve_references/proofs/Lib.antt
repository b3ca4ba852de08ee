pub mod Earlier
pub mod Gathered
pub mod Itself
pub mod Saying
pub mod Seeing
pub mod Variables
pub mod Whole
