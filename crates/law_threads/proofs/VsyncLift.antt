-- What a compositor decides in a vsync, lifted to the state of all callers, wherever its take is the next call on the arrivals.
use Rattle.std.proofs.Common.{◌≡◌, ℕ, suc, ◌+◌, ◌==◌, false, List, [], ◌∷◌, ◌++◌, arith, ap, ◌∙◌, sym, refl, inl, inr, subst, length, map, Some, None}
use Rattle.std.specs.List.{flat_map, sum_by}
use Rattle.std.proofs.lemmas.Bool.{cases_Bool, eqb-true}
use Rattle.std.proofs.lemmas.List.{append-nil}
use Rattle.std.proofs.lemmas.List.Concat.{flat_map-append}
use Rattle.std.proofs.lemmas.List.Sums.{sum_by-append, sum_by-cons}
use Rattle.sf_base.specs.declared.fences.Seen.{Seen}
use Rattle.law_draws.specs.sf_calls.declared.object.Entry.{Entry}
use Rattle.sf_script_scene.specs.declared.step.ActorScript.{ActorScript}
use Rattle.law_draws.specs.sf_surface.Tokens.{Issued, ReadLeaseOf}
use Rattle.law_draws.specs.sf_token.Arrivals.{waiting}
use Rattle.law_draws.specs.sf_token.declared.arrivals.ArriveCall.TheVariants as arrive
use Rattle.law_draws.specs.sf_token.Pending.{Arrival}
use Rattle.sf_turns.specs.Views.{SeatView}
use Rattle.law_draws.specs.sf_txn.Transactions.{Contents, empty}
use Rattle.law_draws.specs.sf_txn.declared.lease.Lease.{Ghosts}
use Rattle.law_draws.specs.sf_commit.Handlers.{Decides, HandlerOf}
use Rattle.law_draws.specs.sf_commit.Lending.{ends_of, left_if, reads_of}
use Rattle.law_draws.specs.sf_commit.Releases.{CommittedOf}
use Rattle.law_draws.specs.sf_actor.Desks.{DeskView}
use Rattle.law_draws.specs.sf_actor.Rights.{Turn}
use Rattle.law_draws.specs.sf_actor.Traces.{places_from}
use Rattle.law_draws.specs.sf_actor.Tries.{ActorOf}
use Rattle.law_draws.specs.sf_actor.Written as written
use Rattle.law_draws.specs.sf_actor_steps.Editing.{buffer_with}
use Rattle.sf_live_compositor.specs.sf_live_seats.Arriving.{ArrivalCalls, Arrived, Arriving}
use Rattle.law_draws.specs.law_rights.Moves.{Gets, HasAtMost}
use Rattle.law_draws.specs.law_rights.States.{State, all_owed, all_written, lease_turn, owed_of, rights_arrived, rights_held, rights_in, rights_of}
use Rattle.law_draws.specs.law_rights.Vsyncs.{DecidesIn, IsOfTurns, lease_back, lease_on}
use Rattle.law_draws.proofs.law_rights_lemmas.OwedDrawings.{gets_end, gets_same}
use Rattle.law_draws.proofs.law_rights_lemmas.PlaceChanges.{sum_read}
use Rattle.law_draws.proofs.law_rights_lemmas.ReadLeases.{vsync_keeps}
use Rattle.law_draws.proofs.law_rights_lemmas.SilentSteps.{quiet_keeps}
use Rattle.law_threads.specs.Cuts.{HasLedger, Local, Whole, front, state_at}
use Rattle.law_threads.specs.Orders.{raised}
use Rattle.law_threads.proofs.CallLift.{front_after, front_before}
use Rattle.law_threads.proofs.Locals.{gets_at, gets_in, parted, same_at}
use Rattle.law_threads.specs.Members.{sitting_at}

suc_apart : (queue : ℕ) → (suc queue == 0) ≡ false
suc_apart queue = elim (cases_Bool (suc queue == 0)) [
  | inl met ↦ let same = eqb-true (suc queue) 0 met in absurd (omega (arith, same))
  | inr unmet ↦ unmet
]

-- no step wrote nothing
none_written : written.written_in [] ≡ []
unfolding places_from
none_written = refl

abbrev held_txn : List ReadLeaseOf → Contents ReadLeaseOf
held_txn leases = record empty { buffers = map (buffer_with 1) leases }

pending_rights : (w : Turn → ℕ) (pending : List (Arrival ReadLeaseOf)) → sum_by w (flat_map rights_in (map (λ (a : Arrival ReadLeaseOf). Some a.txn) pending)) ≡ sum_by w (flat_map rights_arrived pending)
pending_rights w [] = refl
pending_rights w (a ∷ pending) =
    let rest = pending_rights w pending in
    let x = sum_by-append w (rights_arrived a) (flat_map rights_in (map (λ (b : Arrival ReadLeaseOf). Some b.txn) pending)) in
    let y = sum_by-append w (rights_arrived a) (flat_map rights_arrived pending) in
    omega (arith, rest, x, y)

leases_rights : (w : Turn → ℕ) (leases : List ReadLeaseOf) → sum_by w (rights_in (Some (held_txn leases))) ≡ sum_by w (map lease_turn leases)
leases_rights w [] = refl
leases_rights w (l ∷ leases) =
    let rest = leases_rights w leases in
    let x = sum_by-cons w (lease_turn l) (map lease_turn leases) in
    let y = sum_by-cons w (lease_turn l) (rights_in (Some (held_txn leases))) in
    omega (arith, rest, x, y)

waiting_sum : (w : Turn → ℕ) (xs ys : List (Arrival ReadLeaseOf)) → sum_by w (flat_map rights_arrived (xs ++ ys)) ≡ sum_by w (flat_map rights_arrived xs) + sum_by w (flat_map rights_arrived ys)
waiting_sum w xs ys = let a = ap (sum_by w) (flat_map-append rights_arrived xs ys) in let b = sum_by-append w (flat_map rights_arrived xs) (flat_map rights_arrived ys) in omega (arith, a, b)

on_sum : (w : Turn → ℕ) (xs ys : List ReadLeaseOf) → sum_by w (map lease_turn (xs ++ ys)) ≡ sum_by w (map lease_turn xs) + sum_by w (map lease_turn ys)
on_sum w xs ys =
    let a = sum_read lease_turn w (xs ++ ys) in
    let b = sum_by-append (λ (l : ReadLeaseOf). w (lease_turn l)) xs ys in
    let c = sum_read lease_turn w xs in
    let d = sum_read lease_turn w ys in
    omega (arith, a, b, c, d)

-- rights that others hold meanwhile, as those of one actor more
module _ {B : Type 0} where
  abbrev nobody : ActorScript → List (Arrival ReadLeaseOf) → List ReadLeaseOf → ActorOf B
  nobody script pending leases = record {
    script = script;
    stock = [];
    parts = record { names = []; transactions = map (λ (a : Arrival ReadLeaseOf). Some a.txn) pending ++ Some (held_txn leases) ∷ []; stock = [] };
    trace = [];
    replies = [];
    spent = false;
  }

module _ (B : Type 0) where
  nobody_rights : (w : Turn → ℕ) (script : ActorScript) (pending : List (Arrival ReadLeaseOf)) (leases : List ReadLeaseOf)
      → sum_by w (rights_of (nobody {B = B} script pending leases).parts) ≡ sum_by w (flat_map rights_arrived pending) + sum_by w (map lease_turn leases)
  nobody_rights w script pending leases =
      let txns = map (λ (a : Arrival ReadLeaseOf). Some a.txn) pending in
      let a = ap (sum_by w) (flat_map-append rights_in (map (λ (a : Arrival ReadLeaseOf). Some a.txn) pending) (Some (held_txn leases) ∷ [])) in
      let b = sum_by-append w (flat_map rights_in (map (λ (a : Arrival ReadLeaseOf). Some a.txn) pending)) (flat_map rights_in (Some (held_txn leases) ∷ [])) in
      let c = pending_rights w pending in
      let d = leases_rights w leases in
      let e = ap (sum_by w) (append-nil (rights_in (Some (held_txn leases)))) in
      omega (arith, a, b, c, d, e)

module _ {B : Type 0} where
  -- what is counted of a state's rights
  state_sum : (w : Turn → ℕ) (state : State B) → sum_by w (rights_held state)
      ≡ (sum_by w (flat_map (λ (actor : ActorOf B). rights_of actor.parts) state.actors) + sum_by w (flat_map rights_arrived state.waiting)) + sum_by w (map lease_turn state.on)
  state_sum w state =
      let a = sum_by-append w (flat_map (λ (actor : ActorOf B). rights_of actor.parts) state.actors ++ flat_map rights_arrived state.waiting) (map lease_turn state.on) in
      let b = sum_by-append w (flat_map (λ (actor : ActorOf B). rights_of actor.parts) state.actors) (flat_map rights_arrived state.waiting) in
      omega (arith, a, b)

  module _ (lease : Ghosts ReadLeaseOf SeatView ReadLeaseOf Issued) (of_turns : IsOfTurns lease) (whole : Whole B) (script : ActorScript) (handler after : HandlerOf ReadLeaseOf) (eye next_eye : SeatView) (arrived : List (Arrival ReadLeaseOf)) (seen : Seen) (expected : ℕ)
      (told : CommittedOf ReadLeaseOf) (decides : Decides lease handler eye arrived seen expected told after next_eye) (unlent : handler.lent ≡ None)
      (more history : ArrivalCalls) (e : Entry Arriving Arrived) (whole_is : whole.arriving ≡ more ++ e ∷ history) (takes : e.call ≡ arrive.Take) (took : arrived ≡ waiting history)
      (others later : List (Local B)) (heights : ℕ → ℕ) (next : length history ≡ heights 0) where
    abbrev was : Local B
    was = sitting_at handler.pending (map lease_on handler.on) eye.leaves

    abbrev is : Local B
    is = sitting_at after.pending (map lease_back told.releases ++ map lease_on after.on) next_eye.leaves

    abbrev risen : ℕ → ℕ
    risen = raised heights 0

    abbrev old : State B
    old = state_at whole heights (others ++ was ∷ later)

    abbrev new : State B
    new = state_at whole risen (others ++ is ∷ later)

    -- what others hold beside the actors
    abbrev pending_beside : List (Arrival ReadLeaseOf)
    pending_beside = flat_map (λ (l : Local B). l.pending) others ++ flat_map (λ (l : Local B). l.pending) later

    abbrev on_beside : List ReadLeaseOf
    on_beside = flat_map (λ (l : Local B). l.on) others ++ flat_map (λ (l : Local B). l.on) later

    abbrev aside : ActorOf B
    aside = nobody script pending_beside on_beside

    abbrev left_now : List Turn
    left_now = ends_of lease (left_if handler.lent (reads_of decides.end.stage.gone))

    abbrev from_state : State B
    from_state = record old { actors = old.actors ++ aside ∷ []; waiting = handler.pending ++ arrived; on = map lease_on handler.on }

    abbrev to_view : DeskView B
    to_view = record old.view { turns = record old.view.turns { leaves = old.view.turns.leaves ++ left_now } }

    abbrev to_state : State B
    to_state = record from_state { view = to_view; waiting = after.pending; on = map lease_back told.releases ++ map lease_on after.on }

    decides_in : DecidesIn lease from_state to_state
    decides_in = record {
      of_turns = of_turns;
      handler = handler;
      after = after;
      arrived = arrived;
      seen = seen;
      expected = expected;
      told = told;
      unlent = unlent;
      eye = eye;
      next_eye = next_eye;
      decides = decides;
      leaves = refl;
      same = refl;
      calls = refl;
      waiting_old = refl;
      waiting_new = refl;
      on_old = refl;
      on_new = refl;
    }

    same_calls : new.view.calls ≡ old.view.calls
    same_calls = λ i queue. front (stays queue i) (whole.view.calls queue)
      where
        stays : (queue : ℕ) → risen (suc queue) ≡ heights (suc queue)
        stays queue = rw (suc_apart queue) refl

    waits_was : waiting (front (heights 0) whole.arriving) ≡ arrived
    waits_was = ap waiting (front_before heights 0 whole.arriving more history e whole_is next) ∙ sym took

    waits_is : waiting (front (risen 0) whole.arriving) ≡ []
    waits_is = ap waiting (front_after heights 0 whole.arriving more history e whole_is next) ∙ (λ i. waiting (record { by = e.by; call = takes i; reply = e.reply } ∷ history))

    same_actors : new.actors ≡ old.actors
    same_actors = same_at (λ (l : Local B). l.actors) others later was is refl

    aside_sum : (w : Turn → ℕ) (actors : List (ActorOf B)) → sum_by w (flat_map (λ (actor : ActorOf B). rights_of actor.parts) (actors ++ aside ∷ []))
        ≡ sum_by w (flat_map (λ (actor : ActorOf B). rights_of actor.parts) actors) + (sum_by w (flat_map rights_arrived pending_beside) + sum_by w (map lease_turn on_beside))
    aside_sum w actors =
        let a = ap (sum_by w) (flat_map-append (λ (actor : ActorOf B). rights_of actor.parts) actors (aside ∷ [])) in
        let b = sum_by-append w (flat_map (λ (actor : ActorOf B). rights_of actor.parts) actors) (rights_of aside.parts ++ []) in
        let c = sum_by-append w (rights_of aside.parts) [] in
        let d = nobody_rights B w script pending_beside on_beside in
        omega (arith, a, b, c, d)

    held_from : HasAtMost (rights_held old) [] [] (rights_held from_state)
    held_from w =
        let a = state_sum w old in
        let b = state_sum w from_state in
        let c = aside_sum w old.actors in
        let d = ap (λ (xs : List (Arrival ReadLeaseOf)). sum_by w (flat_map rights_arrived xs)) (ap (λ xs. flat_map (λ (l : Local B). l.pending) (others ++ was ∷ later) ++ xs) waits_was ∙ ap (λ xs. xs ++ arrived) (parted (λ (l : Local B). l.pending) others later was)) in
        let f = waiting_sum w (flat_map (λ (l : Local B). l.pending) others ++ (handler.pending ++ flat_map (λ (l : Local B). l.pending) later)) arrived in
        let g = waiting_sum w (flat_map (λ (l : Local B). l.pending) others) (handler.pending ++ flat_map (λ (l : Local B). l.pending) later) in
        let h = waiting_sum w handler.pending (flat_map (λ (l : Local B). l.pending) later) in
        let i = waiting_sum w (flat_map (λ (l : Local B). l.pending) others) (flat_map (λ (l : Local B). l.pending) later) in
        let j = waiting_sum w handler.pending arrived in
        let k = ap (λ (xs : List ReadLeaseOf). sum_by w (map lease_turn xs)) (parted (λ (l : Local B). l.on) others later was) in
        let l = on_sum w (flat_map (λ (l : Local B). l.on) others) (map lease_on handler.on ++ flat_map (λ (l : Local B). l.on) later) in
        let m = on_sum w (map lease_on handler.on) (flat_map (λ (l : Local B). l.on) later) in
        let n = on_sum w (flat_map (λ (l : Local B). l.on) others) (flat_map (λ (l : Local B). l.on) later) in
        omega (arith, a, b, c, d, f, g, h, i, j, k, l, m, n)

    held_to : HasAtMost (rights_held to_state) [] [] (rights_held new)
    held_to w =
        let a = state_sum w new in
        let b = state_sum w to_state in
        let c = aside_sum w old.actors in
        let o = ap (λ (xs : List (ActorOf B)). sum_by w (flat_map (λ (actor : ActorOf B). rights_of actor.parts) xs)) same_actors in
        let d = ap (λ (xs : List (Arrival ReadLeaseOf)). sum_by w (flat_map rights_arrived xs)) (ap (λ xs. flat_map (λ (l : Local B). l.pending) (others ++ is ∷ later) ++ xs) waits_is ∙ append-nil (flat_map (λ (l : Local B). l.pending) (others ++ is ∷ later)) ∙ parted (λ (l : Local B). l.pending) others later is) in
        let g = waiting_sum w (flat_map (λ (l : Local B). l.pending) others) (after.pending ++ flat_map (λ (l : Local B). l.pending) later) in
        let h = waiting_sum w after.pending (flat_map (λ (l : Local B). l.pending) later) in
        let i = waiting_sum w (flat_map (λ (l : Local B). l.pending) others) (flat_map (λ (l : Local B). l.pending) later) in
        let k = ap (λ (xs : List ReadLeaseOf). sum_by w (map lease_turn xs)) (parted (λ (l : Local B). l.on) others later is) in
        let l = on_sum w (flat_map (λ (l : Local B). l.on) others) ((map lease_back told.releases ++ map lease_on after.on) ++ flat_map (λ (l : Local B). l.on) later) in
        let m = on_sum w (map lease_back told.releases ++ map lease_on after.on) (flat_map (λ (l : Local B). l.on) later) in
        let n = on_sum w (flat_map (λ (l : Local B). l.on) others) (flat_map (λ (l : Local B). l.on) later) in
        omega (arith, a, b, c, o, d, g, h, i, k, l, m, n)

    -- nothing of it is owed or written
    aside_gets : {A : Type 0} (f : ActorOf B → List A) → f aside ≡ [] → (actors : List (ActorOf B)) → flat_map f (actors ++ aside ∷ []) ≡ flat_map f actors
    aside_gets f none actors =
        flat_map-append f actors (aside ∷ []) ∙ ap (λ xs. flat_map f actors ++ (xs ++ [])) none ∙ append-nil (flat_map f actors)

    eye_left : next_eye.leaves ≡ eye.leaves ++ left_now
    eye_left = sym (of_turns.ends next_eye) ∙ decides.settled.reads.ends ∙ ap (λ (xs : List Turn). xs ++ left_now) (of_turns.ends eye)

    left_to : Gets to_state.view.turns.leaves [] new.view.turns.leaves
    left_to = record {
      no_others = gets_in old.view.turns.leaves left_now new.view.turns.leaves to_state.view.turns.leaves all_left seat_left;
      all = gets_in old.view.turns.leaves left_now to_state.view.turns.leaves new.view.turns.leaves seat_left all_left;
    }
      where
        all_left : Gets old.view.turns.leaves left_now new.view.turns.leaves
        all_left = gets_at (λ (l : Local B). l.leaves) others later was is left_now (subst (λ (xs : List Turn). Gets eye.leaves left_now xs) (sym eye_left) (gets_end eye.leaves left_now))

        seat_left : Gets old.view.turns.leaves left_now to_state.view.turns.leaves
        seat_left = gets_end old.view.turns.leaves left_now

    pub decides_keeps : HasLedger old → HasLedger new
    decides_keeps is_one =
        quiet_keeps to_state new (record {
          marks = refl;
          calls = same_calls;
          held = held_to;
          owed = subst (λ xs. Gets xs [] (all_owed new)) (sym (aside_gets (λ (actor : ActorOf B). owed_of actor.parts) refl old.actors)) (subst (λ (ofs : List (ActorOf B)). Gets (all_owed old) [] (flat_map (λ (actor : ActorOf B). owed_of actor.parts) ofs)) (sym same_actors) (gets_same (all_owed old)));
          left = left_to;
          written = subst (λ xs. Gets xs [] (all_written new)) (sym (aside_gets (λ (actor : ActorOf B). written.written_in actor.trace) none_written old.actors)) (subst (λ (ofs : List (ActorOf B)). Gets (all_written old) [] (flat_map (λ (actor : ActorOf B). written.written_in actor.trace) ofs)) (sym same_actors) (gets_same (all_written old)));
        })
        (vsync_keeps lease from_state to_state decides_in
        (quiet_keeps old from_state (record {
          marks = refl;
          calls = refl;
          held = held_from;
          owed = subst (λ xs. Gets (all_owed old) [] xs) (sym (aside_gets (λ (actor : ActorOf B). owed_of actor.parts) refl old.actors)) (gets_same (all_owed old));
          left = gets_same old.view.turns.leaves;
          written = subst (λ xs. Gets (all_written old) [] xs) (sym (aside_gets (λ (actor : ActorOf B). written.written_in actor.trace) none_written old.actors)) (gets_same (all_written old));
        }) is_one))
