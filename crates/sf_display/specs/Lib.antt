pub mod Stacks
pub mod inner
pub use Rattle.sf_tree.specs.sf_layer
pub use Rattle.sf_output_shown.specs as sf_output_shown
pub use Rattle.sf_tree.specs as sf_tree
pub use Rattle.sf_output_shown.specs.sf_view
