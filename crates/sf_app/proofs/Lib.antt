pub mod CallerLemmas
pub mod HeaderLemmas
pub mod ShownLemmas
pub mod StatusLemmas
pub mod WordLemmas
