-- A try that makes a call on a queue, wherever that call is the next one there.
use Rattle.std.proofs.Common.{◌≡◌, ℕ, ◌+◌, ◌-◌, Bool, true, false, List, [], ◌∷◌, ◌++◌, ap, sym, refl, subst, Option, Some, None}
use Rattle.std.specs.Prelude.{if◌then◌else◌, nat_lt, slice_index}
use Rattle.sf_base.specs.Fences.{Fence}
use Rattle.sf_base.specs.declared.status.QStatus.{QStatus}
use Rattle.sf_script_scene.specs.sf_picture.declared.picture.Picture.{Picture}
use Rattle.sf_script_scene.specs.declared.step.Step.{Step}
use Rattle.sf_script_scene.specs.declared.step.Step.TheVariants as step
use Rattle.law_draws.specs.sf_surface.Tokens.{EndingOf}
use Rattle.law_draws.specs.sf_times.declared.protocol.Knows.{Knows}
use Rattle.sf_turns.specs.Views.{SeatView}
use Rattle.law_draws.specs.sf_actor.Desks.{DeskHome, DeskView}
use Rattle.law_draws.specs.sf_actor.Names.{name_in}
use Rattle.law_draws.specs.sf_actor.Points.{frame_fence, requested_fence}
use Rattle.law_draws.specs.sf_actor_steps.declared.bindings.Bindings.{Bindings}
use Rattle.law_draws.specs.sf_actor_steps.declared.tried.Tried.{Tried}
use Rattle.law_draws.specs.sf_actor_steps.declared.tried.Tried.TheVariants as tried
use Rattle.law_draws.specs.sf_actor_steps.Acting.{Acts, Attempts}
use Rattle.law_draws.specs.sf_actor_steps.Calling.{Ends}
use Rattle.law_draws.specs.sf_actor_steps.Doing.{MakesCall}
use Rattle.law_draws.specs.sf_actor_steps.Bindings.{holdings_of}
use Rattle.law_draws.specs.sf_actor_steps.Leaving.{TriesToLeave}
use Rattle.law_threads.proofs.TimelineLooks.{knows_just, saw_just, sees_just}

called_apart : (status : QStatus) (values : List ℕ) (other : ℕ) → tried.Called status values ≡ tried.Own other → ⊥
called_apart status values other same = absurd (cc same)

-- the seat after a drawing that ended, if one did
abbrev pub seat_after : Option EndingOf → SeatView → SeatView
seat_after None seat = seat
seat_after (Some ending) seat = record seat {
  leaves = seat.leaves ++ (ending.turn.buffer, ending.turn.number) ∷ [];
  seen = (seat.seen ++ []) ++ (ending.turn.buffer, ending.turn.number + 1) ∷ [];
}

module _ {B : Type 0} where
  pub ends_after : (ends : Option EndingOf) (made : DeskView B) → Ends ends made (record made { turns = seat_after ends made.turns })
  ends_after None made = refl
  ends_after (Some ending) made = (([], refl), refl)

-- the same desk, where all that happens goes through it
abbrev pub exactly : DeskHome → DeskHome
exactly home = record home { is_exact = true }

waits_not : (test : Bool) (status : QStatus) (values : List ℕ) → tried.Called status values ≡ (if test then tried.NotYet else tried.Own 0) → ⊥
waits_not true status values same = absurd (cc same)
waits_not false status values same = absurd (cc same)

module _ {B : Type 0} (pictures : ℕ → Picture) (home : DeskHome) where
  -- The one call that a step makes, from a view on that knows the calls and the turns that were known; and whatever else the step does, it
  -- does it over any desk, if it makes this call there.
  pub record MakesOne (s : Step) (n : ℕ) (before after : Bindings B) (old new : DeskView B) (came_to : Tried) : Type 0 where
    pub from : DeskView B
    pub called : Bindings B
    pub makes : MakesCall pictures home before.by.0 n s before called from new came_to
    pub calls : from.calls ≡ old.calls
    pub left : from.turns.leaves ≡ old.turns.leaves
    pub arrivals : from.arrivals ≡ old.arrivals
    pub times : Knows
    pub looked : Knows
    pub again : (one other : DeskView B) → one.times ≡ times → MakesCall pictures (exactly home) before.by.0 n s before called (record one { times = looked }) other came_to
        → Acts pictures (exactly home) before.by.0 n s before after one other came_to

  plain_call : (s : Step) (n : ℕ) (before after : Bindings B) (old new : DeskView B) (came_to : Tried) → MakesCall pictures home before.by.0 n s before after old new came_to
      → ((one other : DeskView B) → MakesCall pictures (exactly home) before.by.0 n s before after one other came_to → Acts pictures (exactly home) before.by.0 n s before after one other came_to)
      → MakesOne s n before after old new came_to
  plain_call s n before after old new came_to makes again = record {
    from = old;
    called = after;
    makes = makes;
    calls = refl;
    left = refl;
    arrivals = refl;
    times = old.times;
    looked = old.times;
    again = λ one other same made. again one other (subst (λ (times : Knows). MakesCall pictures (exactly home) before.by.0 n s before after (record one { times = times }) other came_to) (sym same) made);
  }

  leaving_call : (s : Step) (n : ℕ) (fence : Option Fence) (before after : Bindings B) (old new : DeskView B) (status : QStatus) (values : List ℕ)
      → TriesToLeave pictures home before.by.0 n s fence before after old new (tried.Called status values)
      → ((one other : DeskView B) → TriesToLeave pictures (exactly home) before.by.0 n s fence before after one other (tried.Called status values) → Acts pictures (exactly home) before.by.0 n s before after one other (tried.Called status values))
      → MakesOne s n before after old new (tried.Called status values)
  leaving_call s n None before after old new status values leaves again =
      plain_call s n before after old new (tried.Called status values)
      (subst (λ (view : DeskView B). MakesCall pictures home before.by.0 n s before after view new (tried.Called status values)) leaves.1 leaves.2)
      (λ one other made. again one other (one, refl, made))
  leaving_call s n (Some fence) before after old new status values leaves again = record {
    from = leaves.0;
    called = after;
    makes = leaves.2;
    calls = ap (λ (view : DeskView B). view.calls) leaves.1.3;
    left = ap (λ (view : DeskView B). view.turns.leaves) leaves.1.3;
    arrivals = ap (λ (view : DeskView B). view.arrivals) leaves.1.3;
    times = knows_just leaves.1.0;
    looked = saw_just leaves.1.0;
    again = λ one other same made. again one other (
      record one { times = saw_just leaves.1.0 },
      (leaves.1.0, sees_just home (exactly home) old leaves.0 leaves.1.0 leaves.1.1 one (record one { times = saw_just leaves.1.0 }) same refl, leaves.1.2, refl),
      made,
    );
  }

  pub acts_one : (s : Step) (n : ℕ) (before after : Bindings B) (old new : DeskView B) (status : QStatus) (values : List ℕ) → Acts pictures home before.by.0 n s before after old new (tried.Called status values)
      → MakesOne s n before after old new (tried.Called status values)
  acts_one (step.Disconnect queue) n before after old new status values acts = record {
    from = old;
    called = acts.called;
    makes = acts.makes;
    calls = refl;
    left = refl;
    arrivals = refl;
    times = old.times;
    looked = old.times;
    again = λ one other same made. record {
      called = acts.called;
      makes = subst (λ (times : Knows). MakesCall pictures (exactly home) before.by.0 n (step.Disconnect queue) before acts.called (record one { times = times }) other (tried.Called status values)) (sym same) made;
      drops = acts.drops;
    };
  }
  acts_one (step.PDetach from to) n before after old new status values acts =
      leaving_call (step.PDetach from to) n (requested_fence (name_in (holdings_of before) from)) before after old new status values acts (λ one other leaves. leaves)
  acts_one (step.CDetach from to) n before after old new status values acts =
      leaving_call (step.CDetach from to) n (frame_fence (name_in (holdings_of before) from)) before after old new status values acts (λ one other leaves. leaves)
  acts_one (step.Draw name picture) n before after old new status values acts = absurd acts.tries
  acts_one (step.Signal timeline value) n before after old new status values acts = absurd (called_apart status values 0 acts.own)
  acts_one (step.Wait timeline value) n before after old new status values acts = absurd (waits_not (nat_lt (slice_index acts.seen.values (timeline - 1)) value) status values acts.answers)
  acts_one (step.Tx number) n before after old new status values acts = absurd (called_apart status values 0 acts.own)
  acts_one (step.Desire number time) n before after old new status values acts = absurd (called_apart status values 0 acts.own)
  acts_one (step.Barrier number layer frame) n before after old new status values acts = absurd (called_apart status values 0 acts.own)
  acts_one (step.Set number layer change) n before after old new status values acts = absurd (called_apart status values 0 acts.own)
  acts_one (step.Buffer number layer name) n before after old new status values acts = absurd (called_apart status values 0 acts.0)
  acts_one (step.Merge number other) n before after old new status values acts = absurd (called_apart status values 0 acts.0)
  acts_one (step.Apply number token) n before after old new status values acts = absurd acts
  acts_one s n before after old new status values acts = plain_call s n before after old new (tried.Called status values) acts (λ one other made. made)

  -- where a call was made, no test of the step's own refused it
  pub called_unrefused : (refusal : Option ℕ) (s : Step) (n : ℕ) (before after : Bindings B) (old new : DeskView B) (status : QStatus) (values : List ℕ)
      → Attempts refusal pictures home before.by.0 n s before after old new (tried.Called status values) → (refusal ≡ None) × Acts pictures home before.by.0 n s before after old new (tried.Called status values)
  called_unrefused None s n before after old new status values acts = (refl, acts)
  called_unrefused (Some refused) s n before after old new status values attempts = absurd (called_apart status values refused attempts.0)
