pub mod ByName
pub mod Environments
pub mod FirstNamed
pub mod LastValues
pub mod FramePairs
