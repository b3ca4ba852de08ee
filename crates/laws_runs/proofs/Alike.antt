pub mod Named
pub mod Runs
pub mod Counted
pub mod Cut
