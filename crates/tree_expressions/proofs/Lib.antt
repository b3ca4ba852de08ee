pub mod Printed
pub mod TextsInRow
mod Compared
mod Braces
pub mod Cuts
mod Lines
mod Longest
mod Meanings
mod Turns
mod Written
mod Numbered
mod NumberedRows
