pub mod Agreeing
pub mod Example
pub mod Naive
pub mod Inputs
pub mod Plans
pub mod Reach
