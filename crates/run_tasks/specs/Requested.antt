pub mod Asked
pub mod Requests
pub mod Words
