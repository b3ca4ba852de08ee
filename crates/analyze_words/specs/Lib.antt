pub mod Faults
pub mod Menus
pub mod Worded
pub mod Broken
pub mod Takings
pub mod Reading
