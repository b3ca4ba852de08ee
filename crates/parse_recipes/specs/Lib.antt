pub mod Bodies
pub mod Headers
pub mod Reading
pub mod Numbering
pub mod Plain
pub mod Cooked
pub mod Seen
pub mod Laws
