pub mod Agreement
pub mod Certain
pub mod Determined
pub mod Known
pub mod Repeated
pub mod Unique
