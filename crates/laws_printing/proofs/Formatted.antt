pub mod Seen
pub mod Comments
pub mod SourceItems
pub mod SourceAttributes
pub mod SourceBodies
pub mod Respelled
pub mod PrintedBack
