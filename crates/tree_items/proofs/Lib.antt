pub mod Marks
pub mod RowText
pub mod Filed
pub mod First
pub mod PathNames
pub mod Apart
pub mod FirstNames
