pub mod Settled
pub mod Rows
