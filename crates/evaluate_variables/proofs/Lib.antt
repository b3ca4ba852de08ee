pub mod Given
pub mod Interpreters
pub mod Known
pub mod Opening
pub mod Rows
pub mod SameStage
pub mod Settling
