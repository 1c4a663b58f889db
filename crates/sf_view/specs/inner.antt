pub mod Clips
pub mod Intervals
