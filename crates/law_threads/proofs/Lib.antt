mod Apart
mod Arrivals
mod ArrivalEvents
mod AllCallers
mod ReturnedFrames
mod EmptyLedger
pub mod StampBounds
mod QueueCallTries
mod EventLaws
mod LedgerViews
mod TryOutcomes
pub mod CallCounts
mod VsyncLift
mod VsyncRights
pub mod DeclaredCallers
mod DelayedCalls
mod FirstAndLastStates
mod SentOnTheirWay
mod Fronts
mod CompositorBuffers
mod TryEvents
mod JoinLedger
mod CallLift
mod Lines
mod Locals
mod LeastStamp
mod BufferOwners
mod Pieces
mod SilentLift
mod Quiets
pub mod ReturnedSeats
pub mod RightsAtTiedJoin
mod RightsOfEvents
mod TimelineLooks
mod SendLift
pub mod CallStamps
mod LedgerAtTiedJoin
mod CompositorAsCaller
pub mod ActorAsCaller
mod CompositorPieces
pub mod WalkPieces
mod WalkBlocks
mod TryWrites
pub use Rattle.law_draws.proofs as law_draws_lemmas
pub use Rattle.law_draws.proofs.law_played_lemmas
pub use Rattle.law_draws.proofs.law_rights_lemmas
pub use Rattle.law_draws.proofs.sf_actor_lemmas
pub use Rattle.law_draws.proofs.sf_actor_set_lemmas
pub use Rattle.law_draws.proofs.sf_actor_steps_lemmas
pub use Rattle.sf_live_compositor.proofs.sf_live_seats_lemmas
pub use Rattle.sf_live_compositor.proofs.sf_live_threads_lemmas
pub use Rattle.sf_live_compositor.proofs.sf_play_lemmas
