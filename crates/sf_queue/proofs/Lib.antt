pub mod LeaseLemmas
pub mod HistoryLemmas
