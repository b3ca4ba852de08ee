pub mod Endings
pub mod Known
pub mod Opening
