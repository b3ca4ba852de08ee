pub mod TextsInRow
pub mod KindFound
pub mod Sets
