pub mod Sorted
pub mod TextsInRow
pub mod InOrder
pub mod Groups
pub mod InPlace
pub mod InTurn
pub mod SameKind
