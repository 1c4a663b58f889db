pub mod Objects
pub mod Stamps
