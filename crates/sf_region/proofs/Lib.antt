pub mod BandLemmas
pub mod HoleLemmas
pub mod MeetingLemmas
pub mod MovedLemmas
pub mod PointLemmas
pub mod RowLemmas
pub mod SameLemmas
pub mod SpanLemmas
