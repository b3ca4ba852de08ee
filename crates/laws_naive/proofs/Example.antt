pub mod Runs
pub mod World
pub mod Defined
pub mod Naive
pub mod Reach
pub mod Laws
