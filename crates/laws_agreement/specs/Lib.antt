pub mod Agreement
pub mod Certain
pub mod Determined
pub mod Grounds
pub mod Known
pub mod Repeated
pub mod Unique
