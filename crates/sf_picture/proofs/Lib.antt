pub mod LeapLemmas
pub mod SameLemmas
pub mod SolidLemmas
pub mod SpanLemmas
