pub mod Parts
pub mod Own
pub mod Renumbering
pub mod Variables
pub mod Order
pub mod Alike
