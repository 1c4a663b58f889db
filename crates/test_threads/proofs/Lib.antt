pub mod IntakeLemmas
mod CrowdLemmas
