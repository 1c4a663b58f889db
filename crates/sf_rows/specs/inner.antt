pub mod Channels
pub mod Pairs
