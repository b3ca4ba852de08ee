pub mod Found
pub mod Chosen
