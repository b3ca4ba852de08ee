pub mod Places
pub mod Evaluators
pub mod Variables
pub mod Laws
