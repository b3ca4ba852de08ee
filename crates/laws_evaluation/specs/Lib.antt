pub mod Bodies
pub mod Opening
pub mod Soundness
pub mod Terms
