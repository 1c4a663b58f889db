pub mod Canonical
pub mod Edges
pub mod Points
pub mod Spans
pub mod inner
