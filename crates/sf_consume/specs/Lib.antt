pub mod Acquiring
pub mod Reads
