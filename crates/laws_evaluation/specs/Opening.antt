pub mod Opened
pub mod Meant
pub mod Lazy
pub mod Settled
pub mod Alike
