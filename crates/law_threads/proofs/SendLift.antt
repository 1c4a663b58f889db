-- A transaction that is sent, lifted to the state of all callers: it left its actor's bindings, and is on its way.
use Rattle.std.proofs.Common.{◌≡◌, ℕ, suc, ◌+◌, ◌≤◌, ◌==◌, false, List, [], ◌∷◌, ◌++◌, arith, ap, ◌∙◌, sym, refl, subst, inl, inr, map}
use Rattle.std.specs.List.{flat_map, sum_by}
use Rattle.std.proofs.lemmas.Bool.{cases_Bool, eqb-true}
use Rattle.std.proofs.lemmas.List.Concat.{flat_map-append}
use Rattle.std.proofs.lemmas.List.Sums.{sum_by-append}
use Rattle.sf_script_scene.specs.declared.step.Step.{Step}
use Rattle.law_draws.specs.sf_surface.Tokens.{ReadLeaseOf}
use Rattle.law_draws.specs.sf_token.Arrivals.{waiting}
use Rattle.law_draws.specs.sf_token.Pending.{Arrival}
use Rattle.law_draws.specs.sf_actor.Rights.{Turn}
use Rattle.law_draws.specs.sf_actor.Tries.{ActorOf}
use Rattle.law_draws.specs.sf_actor.Written as written
use Rattle.law_draws.specs.sf_actor_steps.declared.bindings.Bindings.{Bindings}
use Rattle.law_draws.specs.law_rights.Makers.{RightAt, places_arrived, places_held, places_of, places_out, places_owed, right_read}
use Rattle.law_draws.specs.law_rights.Moves.{Gets, HasAtMost}
use Rattle.law_draws.specs.law_rights.States.{State}
use Rattle.law_draws.proofs.law_rights_lemmas.PlaceChanges.{owed_gets, rest_turns, rests_went}
use Rattle.law_draws.proofs.law_rights_lemmas.SilentSteps.{quiet_keeps}
use Rattle.law_threads.specs.Cuts.{Local, Whole, front, state_at, with_sent}
use Rattle.law_threads.specs.Lifts.{local_of}
use Rattle.law_threads.proofs.LedgerViews.{GoesTo}
use Rattle.law_threads.proofs.Locals.{gets_at, parted, same_at}
use Rattle.law_threads.proofs.SilentLift.{actors_sum, on_sum, read_gets}

pub suc_apart : (queue : ℕ) → (suc queue == 0) ≡ false
suc_apart queue = elim (cases_Bool (suc queue == 0)) [
  | inl met ↦ let same = eqb-true (suc queue) 0 met in absurd (omega (arith, same))
  | inr unmet ↦ unmet
]

pub arrivals_sum : (w : RightAt → ℕ) (xs ys : List (Arrival ReadLeaseOf)) → sum_by w (flat_map places_arrived (xs ++ ys)) ≡ sum_by w (flat_map places_arrived xs) + sum_by w (flat_map places_arrived ys)
arrivals_sum w xs ys =
    let a = ap (sum_by w) (flat_map-append places_arrived xs ys) in
    let b = sum_by-append w (flat_map places_arrived xs) (flat_map places_arrived ys) in
    omega (arith, a, b)

module _ {B : Type 0} (whole : Whole B) (s : Step) (bindings : Bindings B) (number : ℕ) (was is : ActorOf B) (on : List ReadLeaseOf) (leaves left : List Turn) (one : Arrival ReadLeaseOf)
    (less : (w : RightAt → ℕ) → sum_by w (places_held is.parts) + sum_by w (places_arrived one) ≤ sum_by w (places_held was.parts))
    (others later : List (Local B)) (heights : ℕ → ℕ) where
  abbrev old : State B
  old = state_at whole heights (others ++ local_of was on leaves ∷ later)

  abbrev new : State B
  new = state_at whole heights (others ++ with_sent one (local_of is on left) ∷ later)

  -- its actor's next state, without what it sent
  abbrev without : State B
  without = state_at whole heights (others ++ local_of is on left ∷ later)

  same_actors : new.actors ≡ without.actors
  same_actors = same_at (λ (l : Local B). l.actors) others later (local_of is on left) (with_sent one (local_of is on left)) refl

  same_on : new.on ≡ without.on
  same_on = same_at (λ (l : Local B). l.on) others later (local_of is on left) (with_sent one (local_of is on left)) refl

  -- it waits with what is on its way
  waits_sum : (w : RightAt → ℕ) → sum_by w (flat_map places_arrived new.waiting) ≡ sum_by w (flat_map places_arrived old.waiting) + sum_by w (places_arrived one)
  waits_sum w =
      let a = ap (λ (xs : List (Arrival ReadLeaseOf)). sum_by w (flat_map places_arrived (xs ++ waiting (front (heights 0) whole.arriving)))) (parted (λ (l : Local B). l.pending) others later (local_of was on leaves)) in
      let b = ap (λ (xs : List (Arrival ReadLeaseOf)). sum_by w (flat_map places_arrived (xs ++ waiting (front (heights 0) whole.arriving)))) (parted (λ (l : Local B). l.pending) others later (with_sent one (local_of is on left))) in
      let c = arrivals_sum w (flat_map (λ (l : Local B). l.pending) others ++ flat_map (λ (l : Local B). l.pending) later) (waiting (front (heights 0) whole.arriving)) in
      let d = arrivals_sum w (flat_map (λ (l : Local B). l.pending) others ++ one ∷ flat_map (λ (l : Local B). l.pending) later) (waiting (front (heights 0) whole.arriving)) in
      let e = arrivals_sum w (flat_map (λ (l : Local B). l.pending) others) (flat_map (λ (l : Local B). l.pending) later) in
      let f = arrivals_sum w (flat_map (λ (l : Local B). l.pending) others) (one ∷ flat_map (λ (l : Local B). l.pending) later) in
      let g = sum_by-append w (places_arrived one) (flat_map places_arrived (flat_map (λ (l : Local B). l.pending) later)) in
      omega (arith, a, b, c, d, e, f, g)

  held : HasAtMost (places_out old) [] [] (places_out new)
  held w =
      let fewer = less w in
      let waits = waits_sum w in
      let a = actors_sum w others later was on leaves in
      let b = ap (λ (xs : List (ActorOf B)). sum_by w (flat_map (λ (x : ActorOf B). places_held x.parts) xs)) same_actors ∙ actors_sum w others later is on left in
      let c = on_sum w others later was on leaves in
      let d = ap (λ (xs : List ReadLeaseOf). sum_by w (map right_read xs)) same_on ∙ on_sum w others later is on left in
      let f = sum_by-append w (flat_map (λ (x : ActorOf B). places_held x.parts) old.actors ++ flat_map places_arrived old.waiting) (map right_read old.on) in
      let g = sum_by-append w (flat_map (λ (x : ActorOf B). places_held x.parts) old.actors) (flat_map places_arrived old.waiting) in
      let h = sum_by-append w (flat_map (λ (x : ActorOf B). places_held x.parts) new.actors ++ flat_map places_arrived new.waiting) (map right_read new.on) in
      let i = sum_by-append w (flat_map (λ (x : ActorOf B). places_held x.parts) new.actors) (flat_map places_arrived new.waiting) in
      omega (arith, fewer, waits, a, b, c, d, f, g, h, i)

  pub send_goes : Gets (places_owed was.parts) [] (places_owed is.parts) → Gets (written.written_in was.trace) [] (written.written_in is.trace) → Gets leaves [] left → GoesTo s bindings number old new
  send_goes owed writes ended = record {
    from = old;
    to = new;
    close_from = record { marks = refl; calls = refl; actors = refl; waiting = refl; on = λ count. refl; left = λ turn there. there; all_left = λ turn there. there };
    close_to = record { marks = refl; calls = refl; actors = refl; waiting = refl; on = λ count. refl; left = λ turn there. there; all_left = λ turn there. there };
    went = λ ledger. rests_went s bindings number old new refl refl held all_owed.no_others (quiet_keeps old new (record {
      marks = refl;
      calls = refl;
      held = rest_turns old new held;
      owed = owed_gets old new [] all_owed;
      left = gets_at (λ (local : Local B). local.leaves) others later (local_of was on leaves) (with_sent one (local_of is on left)) [] ended;
      written = gets (λ (a : ActorOf B). written.written_in a.trace) writes;
    }) ledger);
  }
    where
      gets : {A : Type 0} (f : ActorOf B → List A) → Gets (f was) [] (f is) → Gets (flat_map f old.actors) [] (flat_map f new.actors)
      gets {A} f got = subst (λ (actors : List (ActorOf B)). Gets (flat_map f old.actors) [] (flat_map f actors)) (sym same_actors) (read_gets f others later was is on on leaves left [] got)

      all_owed : Gets (places_of old).owed [] (places_of new).owed
      all_owed = gets (λ (a : ActorOf B). places_owed a.parts) owed
