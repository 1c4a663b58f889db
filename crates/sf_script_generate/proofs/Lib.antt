pub mod DrawLemmas
pub mod PartLemmas
pub mod TextLemmas
