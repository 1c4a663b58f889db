pub mod PartLemmas
pub mod DraftLemmas
