pub mod Counts
pub mod Pixels
pub mod Seen
pub mod Trees
