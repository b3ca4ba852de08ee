pub mod Asked
pub mod Firsts
pub mod Stands
