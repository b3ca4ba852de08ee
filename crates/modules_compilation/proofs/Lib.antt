pub mod Tabled
pub mod Walks
pub mod Keys
pub mod Pieces
pub mod Upward
pub mod Fronted
