pub mod Answered
pub mod Plans
