pub mod Names
pub mod Arguments
pub mod Values
pub mod Functions
