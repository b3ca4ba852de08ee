pub mod Builtins
pub mod Calls
pub mod Goes
pub mod Frames
pub mod Variables
pub mod Lines
pub mod Bodies
