pub mod Bound
pub mod Lists
pub mod Unions
pub mod Reads
pub mod Opening
pub mod Views
pub mod Numbered
pub mod Overriding
