pub mod Met
pub mod Same
pub mod Renamed
