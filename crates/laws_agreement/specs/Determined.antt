pub mod Fit
pub mod Determined
