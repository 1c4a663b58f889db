pub mod Ancestry
pub mod Boxes
pub mod Contents
pub mod Image
pub mod Images
pub mod Views
pub mod Stacks
pub mod Placements
pub mod inner
pub use Rattle.sf_tree.specs.Layers
pub use Rattle.sf_tree.specs.DrawOrder
pub use Rattle.sf_picture.specs.Pixels
pub use Rattle.sf_tree.specs.sf_layer
pub use Rattle.sf_picture.specs as sf_picture
pub use Rattle.sf_tree.specs as sf_tree
