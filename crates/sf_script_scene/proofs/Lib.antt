pub mod DeclaredLemmas
pub mod LimitLemmas
