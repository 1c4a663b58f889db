pub mod TextLemmas
pub mod Sets
