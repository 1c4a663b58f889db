pub mod Lent
pub mod Rights
