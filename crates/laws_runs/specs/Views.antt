pub mod Read
pub mod Known
pub mod Recipes
pub mod Opened
