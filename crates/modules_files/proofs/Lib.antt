pub mod Cuts
pub mod Sets
pub mod Choices
