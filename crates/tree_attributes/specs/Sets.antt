pub mod Arguments
pub mod Indentations
pub mod Kinds
pub mod Laws
pub mod Numbering
pub mod Order
pub mod Sets
