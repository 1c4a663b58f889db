-- States that differ only in what no ledger reads.
use Rattle.std.proofs.Common.{◌≡◌, ℕ, ◌+◌, List, [], ◌∷◌, ◌++◌, arith, ap, sym, subst, length, map}
use Rattle.std.specs.List.{flat_map, sum_by}
use Rattle.std.proofs.lemmas.List.Sums.{sum_by-append}
use Rattle.law_draws.specs.sf_surface.Tokens.{ReadLeaseOf}
use Rattle.law_draws.specs.sf_token.Pending.{Arrival}
use Rattle.law_draws.specs.sf_actor.Rights.{Turn}
use Rattle.law_draws.specs.sf_actor.Tries.{ActorOf}
use Rattle.law_draws.specs.sf_actor_steps.declared.bindings.Bindings.{Bindings}
use Rattle.sf_script_scene.specs.declared.step.Step.{Step}
use Rattle.law_draws.specs.sf_surface.declared.call.QCall.TheVariants as call
use Rattle.law_draws.specs.law_rights.Ledgers.{IsLedger}
use Rattle.law_draws.specs.law_rights.Moves.{AreIn, Gets, HasAtMost}
use Rattle.law_draws.specs.law_rights.States.{State, all_owed, all_written, ledger_of, lease_turn, rights_arrived, rights_held, rights_of}
use Rattle.law_draws.specs.law_rights.PlaceTries.{RestsIn, ReturnsOne}
use Rattle.law_draws.proofs.law_rights_lemmas.OwedDrawings.{gets_same}
use Rattle.law_draws.proofs.law_rights_lemmas.PlaceChanges.{Went, sum_read}
use Rattle.law_draws.proofs.law_rights_lemmas.SilentSteps.{quiet_keeps}
use Rattle.law_draws.proofs.law_rights_lemmas.CallKeepsState.{call_keeps}
use Rattle.law_threads.specs.Cuts.{HasLedger, Local, Whole, state_at}
use Rattle.law_threads.specs.Lifts.{local_of}

-- whatever is counted, it is the same
abbrev pub SameCounts : {A : Type 0} → List A → List A → Type 0
SameCounts {A} xs ys = (count : A → ℕ) → sum_by count ys ≡ sum_by count xs

-- the same calls and actors, and the same frames in any order; and the same turns have left
pub record IsClose {B : Type 0} (one other : State B) : Type 0 where
  pub marks : other.marks ≡ one.marks
  pub calls : other.view.calls ≡ one.view.calls
  pub actors : other.actors ≡ one.actors
  pub waiting : other.waiting ≡ one.waiting
  pub on : SameCounts one.on other.on
  pub left : AreIn other.view.turns.leaves one.view.turns.leaves
  pub all_left : AreIn one.view.turns.leaves other.view.turns.leaves

module _ {B : Type 0} where
  pub close_keeps : (one other : State B) → IsClose one other → IsLedger (ledger_of one) → IsLedger (ledger_of other)
  close_keeps one other close is = quiet_keeps one other (record {
    marks = close.marks;
    calls = close.calls;
    held = held;
    owed = subst (λ (items : List (ActorOf B)). Gets (all_owed one) [] (all_owed (record other { actors = items }))) (sym close.actors) (gets_same (all_owed one));
    left = record { no_others = close.left; all = close.all_left };
    written = subst (λ (items : List (ActorOf B)). Gets (all_written one) [] (all_written (record other { actors = items }))) (sym close.actors) (gets_same (all_written one));
  }) is
    where
      same : rights_held (record one { on = other.on }) ≡ rights_held other
      same = λ i. rights_held (record other { actors = sym close.actors i; waiting = sym close.waiting i })

      held : HasAtMost (rights_held one) [] [] (rights_held other)
      held w =
          let e = ap (sum_by w) same in
          let a = sum_by-append w (flat_map (λ (actor : ActorOf B). rights_of actor.parts) one.actors ++ flat_map rights_arrived one.waiting) (map lease_turn one.on) in
          let b = sum_by-append w (flat_map (λ (actor : ActorOf B). rights_of actor.parts) one.actors ++ flat_map rights_arrived one.waiting) (map lease_turn other.on) in
          let c = sum_read lease_turn w one.on in
          let d = sum_read lease_turn w other.on in
          let f = close.on (λ (lease : ReadLeaseOf). w (lease_turn lease)) in
          omega (arith, e, a, b, c, d, f)

  -- what a try does, between states that are close to these
  pub record GoesTo (s : Step) (before : Bindings B) (number : ℕ) (old new : State B) : Type 0 where
    pub from : State B
    pub to : State B
    pub close_from : IsClose old from
    pub close_to : IsClose to new
    pub went : IsLedger (ledger_of from) → Went s before number from to

  pub goes_keeps : (s : Step) (before : Bindings B) (number : ℕ) (old new : State B) → GoesTo s before number old new → IsLedger (ledger_of old) → IsLedger (ledger_of new)
  goes_keeps s before number old new goes is = close_keeps goes.to new goes.close_to (goes.went (close_keeps old goes.from goes.close_from is)).ledger

  -- a frame that is given back, between states that are close to these
  pub record GivesTo (by number : ℕ) (lease : ReadLeaseOf) (old new : State B) : Type 0 where
    pub from : State B
    pub to : State B
    pub close_from : IsClose old from
    pub close_to : IsClose to new
    pub gives : ReturnsOne by number lease from to

  pub gives_keeps : (by number : ℕ) (lease : ReadLeaseOf) (old new : State B) → GivesTo by number lease old new → IsLedger (ledger_of old) → IsLedger (ledger_of new)
  gives_keeps by number lease old new goes is = close_keeps goes.to new goes.close_to
      (call_keeps goes.from goes.to by goes.gives.queue number (call.Release lease goes.gives.fence) goes.gives.reply (goes.gives.made (record { queue = 0; number = 0 })).call (close_keeps old goes.from goes.close_from is))

module _ {B : Type 0} (whole : Whole B) (Holds : State B → Type 0) where
  -- what a try of an actor does keeps it, between any two states of all callers; what it sent may be on its way
  abbrev pub GoesKept : ActorOf B → ActorOf B → Step → Bindings B → Type 0
  GoesKept was is s before =
      (others later : List (Local B)) (on more : List ReadLeaseOf) (leaves left : List Turn) (sent : List (Arrival ReadLeaseOf)) (heights risen : ℕ → ℕ)
      → GoesTo s before (length was.trace + 1) (state_at whole heights (others ++ local_of was on leaves ∷ later)) (state_at whole risen (others ++ record (local_of is more left) { pending = sent } ∷ later))
      → Holds (state_at whole heights (others ++ local_of was on leaves ∷ later)) → Holds (state_at whole risen (others ++ record (local_of is more left) { pending = sent } ∷ later))

  -- so does a frame that is given back
  abbrev pub GivesKept : Type 0
  GivesKept = (by number : ℕ) (lease : ReadLeaseOf) (old new : State B) → old.marks ≡ whole.marks → new.actors ≡ old.actors → GivesTo by number lease old new → Holds old → Holds new

  -- and rights that rest, or are handed on
  abbrev pub RestsKept : Type 0
  RestsKept = (old new : State B) → old.marks ≡ whole.marks → new.actors ≡ old.actors → (IsLedger (ledger_of old) → RestsIn old new) → Holds old → Holds new

module _ {B : Type 0} (whole : Whole B) where
  -- so does the ledger
  pub ledger_goes : (was is : ActorOf B) (s : Step) (before : Bindings B) → GoesKept whole HasLedger was is s before
  ledger_goes was is s before others later on more leaves left sent heights risen goes holds = goes_keeps s before (length was.trace + 1) _ _ goes holds

  pub ledger_gives : GivesKept whole HasLedger
  ledger_gives by number lease old new marks actors goes holds = gives_keeps by number lease old new goes holds

  pub ledger_rests : RestsKept whole HasLedger
  ledger_rests old new marks actors rests holds = (rests holds).ledger
