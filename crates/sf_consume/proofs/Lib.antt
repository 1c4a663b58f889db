pub mod AcquireLemmas
pub mod HistoryLemmas
