pub mod Kinds
pub mod Ranges
