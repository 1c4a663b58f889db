pub mod Happened
pub use Rattle.law_joins.specs as law_joins
pub use Rattle.law_rounds.specs as law_rounds
