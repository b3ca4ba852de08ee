pub mod Under
pub mod Pairs
pub mod Frames
pub mod Values
pub mod Parameters
pub mod Whole
