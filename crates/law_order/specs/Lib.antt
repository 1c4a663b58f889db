pub mod Order
pub mod Crossings
pub mod Refused
