pub mod Given
pub mod Known
pub mod Opened
pub mod SettingValues
pub mod Settled
