pub mod Performing
pub mod Left
pub mod Marked
