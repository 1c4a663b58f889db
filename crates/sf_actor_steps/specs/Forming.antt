-- The calls of steps with their tokens: what a step takes out of its actor's bindings, and what it asks.
use Rattle.std.specs.Prelude.{◌≡◌, ℕ, ◌≤◌, ◌<◌, ◌^◌, Bool, true, false, List, ◌∷◌, ◌++◌, get_or, option_to_list, Option, Some, None, unwrap_or}
use Rattle.std.specs.List.{All}
use Rattle.atomic_table.specs.Seated.{TableId}
use Rattle.std.specs.Option.{option_map}
use Rattle.sf_base.specs.Fences.{Fence, merged}
use Rattle.sf_base.specs.declared.ids.QueueId.{QueueId}
use Rattle.sf_actor.specs.sf_picture.declared.picture.Picture.{Picture}
use Rattle.sf_actor.specs.sf_script_scene.declared.step.Step.{Step}
use Rattle.sf_actor.specs.sf_script_scene.declared.step.Step.TheVariants as step
use Rattle.sf_actor.specs.sf_slots.declared.slot.Held.{Held}
use Rattle.sf_actor.specs.sf_surface.declared.call.QCall.{QCall}
use Rattle.sf_actor.specs.sf_surface.declared.call.QCall.TheVariants as call
use Rattle.sf_actor.specs.sf_surface.declared.work.Work.{Work}
use Rattle.sf_actor.specs.sf_surface.declared.work.Work.TheVariants as work
use Rattle.sf_actor.specs.sf_surface.Tokens.{LooseOf, ReadLeaseOf, WriteLeaseOf}
use Rattle.sf_actor.specs.sf_turns.Views.{PermitView}
use Rattle.sf_actor.specs.declared.holding.Holding.{Holding}
use Rattle.sf_actor.specs.declared.holding.Holding.TheVariants as holding
use Rattle.sf_actor.specs.Scripts.{crop_of, fence_of, queue_of}
use Rattle.sf_actor_steps.specs.Calling.{with_held}
use Rattle.sf_actor_steps.specs.declared.asking.Asking.{Asking}
use Rattle.sf_actor_steps.specs.declared.bindings.Bindings.{Bindings}

-- no buffer
abbrev pub no_buffer : Held
no_buffer = record { number = 0; width = 0; height = 0 }

-- each point is of a timeline
abbrev pub ArePoints : List (ℕ × ℕ) → Type 0
ArePoints points = All (λ p. (1 ≤ p.0) × (p.0 ≤ 64)) points

-- a crop that a step names has a corner that fits
abbrev pub IsCrop : Option (ℕ × ℕ × ℕ × ℕ) → Type 0
IsCrop None = Unit {0}
IsCrop (Some crop) = (crop.0 < 2 ^ 31) × (crop.1 < 2 ^ 31)

-- an undrawn lease goes back with what it had to wait for
abbrev pub cancel_fence : Work → Fence → Fence → Fence
cancel_fence (work.Fresh turn) named own = merged named own
cancel_fence (work.Drawn inside pixels) named own = named

-- the step that dequeues: it waits where no slot is free, or does not
abbrev pub dequeue_step : Bool → ℕ → ℕ → Option (ℕ × ℕ) → Step
dequeue_step true queue name size = step.DequeueWait queue name size
dequeue_step false queue name size = step.Dequeue queue name size

-- the step that attaches a loose buffer: as a frame, or as a lent buffer
abbrev pub attach_step : Bool → ℕ → ℕ → ℕ → Step
attach_step true queue from to = step.CAttach queue from to
attach_step false queue from to = step.PAttach queue from to

-- the step that detaches a buffer: a frame's, or a lent one
abbrev pub detach_step : Bool → ℕ → ℕ → Step
detach_step true from to = step.CDetach from to
detach_step false from to = step.PDetach from to

abbrev pub IsOfTable : TableId → Option PermitView → Type 0
IsOfTable table None = Unit {0}
IsOfTable table (Some permit) = permit.table ≡ table

module _ {B : Type 0} where
  -- a call whose tokens come under these names: leases under the first, a loose buffer under the second
  abbrev pub moving : QueueId → ℕ → ℕ → Held → QCall B → Asking B
  moving queue lease free held asked = record { queue = queue; call = asked; homes = record { lent = lease; frame = lease; free = free; last = queue; held = held } }

  -- one that brings nothing
  abbrev pub named : QueueId → ℕ → QCall B → Asking B
  named queue name asked = moving queue name name no_buffer asked

  -- one that brings a loose buffer, which was last in this queue
  abbrev pub joining : QueueId → ℕ → ℕ → QueueId → QCall B → Asking B
  joining queue free lease last asked = record { queue = queue; call = asked; homes = record { lent = lease; frame = lease; free = free; last = last; held = no_buffer } }

  -- the call that attaches a loose buffer: as a frame, or as a lent buffer
  abbrev pub attach_call : Bool → LooseOf → QCall B
  attach_call true loose = call.AttachRead loose
  attach_call false loose = call.Attach loose

  -- what a name holds is taken out
  pub record Takes (before taken : Bindings B) (name : ℕ) (held : Holding B) : Type 0 where
    pub held_there : get_or before.names name None ≡ Some held
    pub rest : taken ≡ with_held before name None

  -- the buffers that may still be opened
  abbrev pub permits_of : Bindings B → List ℕ
  permits_of bindings = option_to_list (option_map (λ (p : PermitView). p.buffer) bindings.spare) ++ bindings.stock.buffers

  -- the permits are of one table
  abbrev pub AreOfTable : TableId → Bindings B → Type 0
  AreOfTable table bindings = (bindings.stock.table ≡ table) × IsOfTable table bindings.spare

  -- a permit is taken out
  pub record TakesPermit (before taken : Bindings B) (permit : PermitView) : Type 0 where
    pub one : permits_of before ≡ permit.buffer ∷ permits_of taken
    pub none_spare : taken.spare ≡ None
    pub same : taken ≡ record before { stock = taken.stock; spare = taken.spare }
    pub table : (of : TableId) → AreOfTable of before → (permit.table ≡ of) × AreOfTable of taken

  -- the call of a step, and what is left in the bindings
  abbrev pub FormsCall : (ℕ → Picture) → Step → Bindings B → Bindings B → Asking B → Type 0
  FormsCall pictures (step.Connect q) before taken asking = (taken ≡ before) × (asking ≡ named (queue_of q) 0 call.Connect)
  FormsCall pictures (step.Disconnect q) before taken asking = (taken ≡ before) × (asking ≡ named (queue_of q) 0 call.Disconnect)
  FormsCall pictures (step.MaxDequeued q n) before taken asking = (taken ≡ before) × (asking ≡ named (queue_of q) 0 (call.MaxDequeued n))
  FormsCall pictures (step.Async q on) before taken asking = (taken ≡ before) × (asking ≡ named (queue_of q) 0 (call.Async on))
  FormsCall pictures (step.MaxAcquired q n) before taken asking = (taken ≡ before) × (asking ≡ named (queue_of q) 0 (call.MaxAcquired n))
  FormsCall pictures (step.Abandon q) before taken asking = (taken ≡ before) × (asking ≡ named (queue_of q) 0 call.Abandon)
  FormsCall pictures (step.Acquire q i at) before taken asking = (taken ≡ before) × (asking ≡ named (queue_of q) i (call.Acquire (unwrap_or at 0)))
  FormsCall pictures (step.Dequeue q s size) before taken asking =
      (permit : PermitView) × TakesPermit before taken permit × (asking ≡ named (queue_of q) s (call.Dequeue (unwrap_or size (0, 0)).0 (unwrap_or size (0, 0)).1 false permit))
  FormsCall pictures (step.DequeueWait q s size) before taken asking =
      (permit : PermitView) × TakesPermit before taken permit × (asking ≡ named (queue_of q) s (call.Dequeue (unwrap_or size (0, 0)).0 (unwrap_or size (0, 0)).1 true permit))
  FormsCall pictures (step.Request s) before taken asking =
      (lease : WriteLeaseOf) × Takes before taken s (holding.Lends lease) × (asking ≡ moving lease.queue s s lease.held (call.Request lease))
  FormsCall pictures (step.Queue s p time crop points) before taken asking =
      (lease : WriteLeaseOf) × Takes before taken s (holding.Lends lease)
      × (asking ≡ moving lease.queue s s lease.held (call.Queue lease (pictures p) time (crop_of lease.held crop) (fence_of points)))
  FormsCall pictures (step.Cancel s points) before taken asking =
      (lease : WriteLeaseOf) × Takes before taken s (holding.Lends lease)
      × (asking ≡ moving lease.queue s s lease.held (call.Cancel lease (cancel_fence lease.work (fence_of points) lease.fence)))
  FormsCall pictures (step.PDetach s b) before taken asking =
      (lease : WriteLeaseOf) × Takes before taken s (holding.Lends lease) × (asking ≡ moving lease.queue s b lease.held (call.Detach lease))
  FormsCall pictures (step.Release i points) before taken asking =
      (lease : ReadLeaseOf) × Takes before taken i (holding.Reads lease)
      × (asking ≡ moving lease.queue i i lease.held (call.Release lease (merged (fence_of points) lease.fence)))
  FormsCall pictures (step.CDetach i b) before taken asking =
      (lease : ReadLeaseOf) × Takes before taken i (holding.Reads lease) × (asking ≡ moving lease.queue i b lease.held (call.DetachRead lease))
  FormsCall pictures (step.PAttach q b s) before taken asking =
      (last : QueueId) × (loose : LooseOf) × Takes before taken b (holding.Frees last loose) × (asking ≡ joining (queue_of q) b s last (call.Attach loose))
  FormsCall pictures (step.CAttach q b i) before taken asking =
      (last : QueueId) × (loose : LooseOf) × Takes before taken b (holding.Frees last loose) × (asking ≡ joining (queue_of q) b i last (call.AttachRead loose))
  FormsCall pictures other before taken asking = ⊥
