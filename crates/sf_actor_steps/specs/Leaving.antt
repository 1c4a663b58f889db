-- What a step does that takes a buffer out of its queue: a loose buffer carries no fence, so the step is refused where a point
-- of its fence is not signalled.
use Rattle.std.specs.Prelude.{◌≡◌, ℕ, ◌==◌, Bool, true, false, if◌then◌else◌, map, Option, Some, None}
use Rattle.sf_base.specs.Fences.{Fence, IsSignalled}
use Rattle.sf_base.specs.declared.fences.Seen.{Seen}
use Rattle.sf_base.specs.Statuses.{number_of}
use Rattle.sf_actor.specs.sf_picture.declared.picture.Picture.{Picture}
use Rattle.sf_actor.specs.sf_script_scene.declared.step.Step.{Step}
use Rattle.sf_actor.specs.sf_script_scene.declared.step.Step.TheVariants as step
use Rattle.sf_actor.specs.declared.holding.Holding.{Holding}
use Rattle.sf_actor.specs.declared.holding.Holding.TheVariants as holding
use Rattle.sf_actor.specs.Desks.{ChangesTimes, DeskHome, DeskView}
use Rattle.sf_actor.specs.Names.{Token, is_frame, is_lent, name_in}
use Rattle.sf_actor.specs.Points.{frame_fence, requested_fence}
use Rattle.sf_actor.specs.Tries.{Sees}
use Rattle.sf_actor_steps.specs.Bindings.{holdings_of}
use Rattle.sf_actor_steps.specs.Doing.{MakesCall}
use Rattle.sf_actor_steps.specs.Forming.{detach_step}
use Rattle.sf_actor_steps.specs.declared.bindings.Bindings.{Bindings}
use Rattle.sf_actor_steps.specs.declared.tried.Tried.{Tried}
use Rattle.sf_actor_steps.specs.declared.tried.Tried.TheVariants as tried

-- a name holds what is to leave its queue: a frame, or a lent buffer
abbrev pub holds_leaving : Bool → Option Token → Bool
holds_leaving true held = is_frame held
holds_leaving false held = is_lent held

-- what it has to wait for before it leaves
abbrev pub leaving_fence : Bool → Option Token → Option Fence
leaving_fence true held = frame_fence held
leaving_fence false held = requested_fence held

-- a call was done
abbrev pub was_ok : Tried → Bool
was_ok (tried.Called status values) = number_of status == 0
was_ok other = false

module _ {B : Type 0} where
  -- a look at the timelines, where there is a fence
  abbrev pub LooksFor : DeskHome → Option Fence → DeskView B → DeskView B → Type 0
  LooksFor home None old new = new ≡ old
  LooksFor home (Some fence) old new = (seen : Seen) × Sees home old new seen × IsSignalled fence seen × ChangesTimes old new

  -- a look that shows a point of a fence which is not signalled
  abbrev pub FindsOpen : DeskHome → Option Fence → DeskView B → DeskView B → Type 0
  FindsOpen home None old new = ⊥
  FindsOpen home (Some fence) old new = (seen : Seen) × Sees home old new seen × (IsSignalled fence seen → ⊥) × ChangesTimes old new

  -- whether a look shows one
  abbrev pub Looks : DeskHome → Option Fence → DeskView B → DeskView B → Bool → Type 0
  Looks home fence old new true = FindsOpen home fence old new
  Looks home fence old new false = LooksFor home fence old new

  -- the step is refused by its fence, or it makes its call
  abbrev pub TriesToLeave : (ℕ → Picture) → DeskHome → ℕ → ℕ → Step → Option Fence → Bindings B → Bindings B → DeskView B → DeskView B
      → Tried → Type 0
  TriesToLeave pictures home by step_number s fence before after old new (tried.Own status) = (status ≡ 11) × (after ≡ before) × FindsOpen home fence old new
  TriesToLeave pictures home by step_number s fence before after old new other =
      (looked : DeskView B) × LooksFor home fence old looked × MakesCall pictures home by step_number s before after looked new other

  -- whatever the pictures of numbers are, it tries the step that takes a buffer out of its queue, from one name to another
  abbrev pub TriesToDetach : DeskHome → ℕ → Bool → ℕ → ℕ → Bindings B → Bindings B → DeskView B → DeskView B → Tried → Type 0
  TriesToDetach home step_number reads from to before after old new tried =
      (pictures : ℕ → Picture) → TriesToLeave pictures home before.by.0 step_number (detach_step reads from to)
      (leaving_fence reads (name_in (holdings_of before) from)) before after old new tried

  -- a name without the lent buffer of this queue, if it holds one
  abbrev pub unless_lent : ℕ → Holding B → Option (Holding B)
  unless_lent queue (holding.Lends lease) = if lease.queue.0 == queue then None else Some (holding.Lends lease)
  unless_lent queue held = Some held

  abbrev pub let_go_of : ℕ → Option (Holding B) → Option (Holding B)
  let_go_of queue None = None
  let_go_of queue (Some held) = unless_lent queue held

  -- whether it holds one
  abbrev pub holds_lent : ℕ → Option (Holding B) → Bool
  holds_lent queue (Some (holding.Lends lease)) = lease.queue.0 == queue
  holds_lent queue other = false

  -- the lent buffers of a queue are dropped
  abbrev pub without_lent : ℕ → Bindings B → Bindings B
  without_lent queue bindings = record bindings { names = map (let_go_of queue) bindings.names }

  -- after a disconnect, which may have been refused
  abbrev pub dropped_after : ℕ → Tried → Bindings B → Bindings B
  dropped_after queue came_to bindings = if was_ok came_to then without_lent queue bindings else bindings

  -- a disconnect makes its call, and drops what the queue lent where it is done
  pub record Disconnects (pictures : ℕ → Picture) (home : DeskHome) (by step_number : ℕ) (s : Step) (queue : ℕ)
      (before after : Bindings B) (old new : DeskView B) (tried : Tried) : Type 0 where
    pub called : Bindings B
    pub makes : MakesCall pictures home by step_number s before called old new tried
    pub drops : after ≡ dropped_after queue tried called

  -- whatever the pictures of numbers are, it does so for this queue
  abbrev pub MakesDisconnect : DeskHome → ℕ → ℕ → Bindings B → Bindings B → DeskView B → DeskView B → Tried → Type 0
  MakesDisconnect home step_number queue before after old new tried =
      (pictures : ℕ → Picture) → Disconnects pictures home before.by.0 step_number (step.Disconnect queue) queue before after old new tried
