pub mod Walk
pub mod Decidable
