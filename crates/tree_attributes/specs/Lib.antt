pub mod Settings
pub mod Attributes
pub mod Forms
pub mod Kinds
pub mod Given
pub mod Sets
