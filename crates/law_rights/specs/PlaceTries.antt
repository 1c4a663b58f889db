-- What a try of an actor's step, or a vsync, does to the places of rights.
use Rattle.std.specs.Prelude.{◌≡◌, ℕ, ◌⊎◌, true, List, [], ◌∷◌}
use Rattle.std.specs.Option.{option_map_or}
use Rattle.sf_base.specs.Fences.{Fence}
use Rattle.sf_actor_set.specs.sf_script_scene.declared.step.Step.{Step}
use Rattle.sf_actor_set.specs.sf_surface.declared.call.QCall.{QCall}
use Rattle.sf_actor_set.specs.sf_surface.declared.call.QCall.TheVariants as call
use Rattle.sf_actor_set.specs.sf_surface.declared.call.QReply.{QReply}
use Rattle.sf_actor_set.specs.sf_surface.Histories.{told_reply}
use Rattle.sf_actor_set.specs.sf_surface.Tokens.{Issued, ReadLeaseOf}
use Rattle.sf_actor_set.specs.sf_turns.Views.{SeatView}
use Rattle.sf_actor_set.specs.sf_txn.declared.lease.Lease.{Ghosts}
use Rattle.sf_actor_set.specs.sf_actor.Desks.{mark_among}
use Rattle.sf_actor_set.specs.sf_actor.Makers.{BufferOf, is_attached, loose_buffer}
use Rattle.sf_actor_set.specs.sf_actor.Names.{Holdings, name_in}
use Rattle.sf_actor_set.specs.sf_actor.Steps.{used_by}
use Rattle.law_rights.specs.Ledgers.{IsLedger}
use Rattle.law_rights.specs.Makers.{places_of, right_read}
use Rattle.law_rights.specs.MakerSteps.{PlaceStep}
use Rattle.law_rights.specs.Places.{RestsAt}
use Rattle.law_rights.specs.States.{State, ledger_of}

-- the loose buffer of the name that a step uses, as it was in its queue last
abbrev pub loose_at : Holdings → Step → BufferOf → BufferOf
loose_at holdings s stay = option_map_or (λ name. loose_buffer stay (name_in holdings name)) (used_by s) stay

-- what stays of a lease says where its right is, after a look and after the lease is handed on
abbrev pub TellsPlaces : Ghosts ReadLeaseOf SeatView ReadLeaseOf Issued → Type 0
TellsPlaces lease = (one other : ReadLeaseOf) → lease.plain one ≡ lease.plain other → (right_read one).at ≡ (right_read other).at

module _ {B : Type 0} where
  -- No call was made: rights went to other bindings, to the next turn, or were let go.
  pub record RestsIn (old new : State B) : Type 0 where
    pub marks : new.marks ≡ old.marks
    pub calls : new.view.calls ≡ old.view.calls
    pub places : RestsAt (places_of old) (places_of new)
    pub ledger : IsLedger (ledger_of new)

  -- a frame goes back in a call, and so do these, one after another
  pub record ReturnsOne (by step : ℕ) (lease : ReadLeaseOf) (old new : State B) : Type 0 where
    pub queue : ℕ
    pub fence : Fence
    pub reply : QReply B
    pub made : (from : BufferOf) → PlaceStep old new by queue step (call.Release lease fence) reply from

  abbrev pub ReturnAll : ℕ → ℕ → List ReadLeaseOf → State B → State B → Type 0
  ReturnAll by step [] old new = new ≡ old
  ReturnAll by step (lease ∷ later) old new = (mid : State B) × ReturnsOne by step lease old mid × ReturnAll by step later mid new

  -- rights rest, and then frames that were held go back
  pub record ReturnsIn (by step : ℕ) (old new : State B) : Type 0 where
    pub mid : State B
    pub rests : RestsIn old mid
    pub leases : List ReadLeaseOf
    pub returns : ReturnAll by step leases mid new

  -- the step's call was made; a buffer that it attaches was last where the name that it uses says
  pub record CallsIn (holdings : Holdings) (s : Step) (by step : ℕ) (old new : State B) : Type 0 where
    pub queue : ℕ
    pub asked : QCall B
    pub reply : QReply B
    pub from : BufferOf
    pub made : PlaceStep old new by queue step asked reply from
    pub attached : (stay : BufferOf) → is_attached (told_reply (mark_among old.marks queue) (old.view.calls queue) by asked) ≡ true → loose_at holdings s stay ≡ from

  -- what a try of a step did
  abbrev pub PlacesGo : Holdings → Step → ℕ → ℕ → State B → State B → Type 0
  PlacesGo holdings s by step old new = CallsIn holdings s by step old new ⊎ ReturnsIn by step old new
