pub mod PassedArrivals
pub mod LeavingLemmas
pub mod LeavingVsync
