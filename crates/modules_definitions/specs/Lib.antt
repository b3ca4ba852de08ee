pub mod Defining
pub mod Gathering
pub mod Keeping
pub mod Lists
pub mod Steps
