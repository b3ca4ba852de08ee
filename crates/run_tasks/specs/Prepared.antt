pub mod Order
pub mod Planned
pub mod Wanted
pub mod Performed
pub mod Begun
