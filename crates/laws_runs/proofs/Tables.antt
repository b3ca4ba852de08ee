pub mod Gathered
pub mod Ranked
pub mod Kept
pub mod Before
