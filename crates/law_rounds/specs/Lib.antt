pub mod OrderSoFar
pub mod Rounds
pub mod Shown
pub use Rattle.law_order.specs as law_order
pub use Rattle.law_waits.specs as law_waits
