pub mod ActorSets
pub mod Compositing
pub mod Opening
pub mod Scripts
pub use Rattle.sf_actor_steps.specs.sf_actor
pub use Rattle.sf_actor_steps.specs as sf_actor_steps
pub use Rattle.sf_commit.specs.sf_calls
pub use Rattle.sf_commit.specs as sf_commit
pub use Rattle.sf_commit.specs.sf_commit_next
pub use Rattle.sf_commit.specs.sf_layer
pub use Rattle.sf_commit.specs.sf_picture
pub use Rattle.sf_actor_steps.specs.sf_script_scene
pub use Rattle.sf_actor_steps.specs.sf_surface
pub use Rattle.sf_actor_steps.specs.sf_times
pub use Rattle.sf_commit.specs.sf_token
pub use Rattle.sf_commit.specs.sf_tree
pub use Rattle.sf_actor_steps.specs.sf_turns
pub use Rattle.sf_commit.specs.sf_txn
