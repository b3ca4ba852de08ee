pub mod FileWords
pub mod Fitting
pub mod Written
pub mod ItemsLexed
pub mod Files
