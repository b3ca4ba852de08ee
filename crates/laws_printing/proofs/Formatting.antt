pub mod ItemTexts
pub mod Fitting
pub mod ItemsLexed
pub mod HeadersLexed
pub mod AttributesLexed
pub mod Appended
pub mod BodiesLexed
pub mod Files
