pub mod Decisions
pub mod FenceLemmas
pub mod Lists
pub mod NoPoints
pub mod PointLemmas
