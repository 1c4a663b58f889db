mod BoundsLemmas
mod ComparingLemmas
mod ConstantLemmas
mod CutLemmas
mod DiffersLemmas
mod GatheredLemmas
mod ListLemmas
mod MeetingLemmas
mod SharedLemmas
mod ShowingLemmas
mod SplitLemmas
mod StackLemmas
pub mod VisibleLemmas
mod WindowLemmas
pub use Rattle.sf_view.proofs.sf_tree_lemmas
pub use Rattle.sf_view.proofs as sf_view_lemmas
