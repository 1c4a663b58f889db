pub mod Fits
pub mod Memory
