-- The state of all callers at the beginning and at the end of a run.
use Rattle.std.proofs.Common.{◌≡◌, ℕ, ◌==◌, false, List, [], ◌∷◌, ◌++◌, arith, ap, ◌∙◌, sym, refl, subst, length, map, drop}
use Rattle.std.specs.Prelude.{Contains, take}
use Rattle.std.specs.List.{flat_map, list_any, sum_by}
use Rattle.std.proofs.lemmas.Bool.{or_parts}
use Rattle.std.proofs.lemmas.List.{length-append, nil_from_length}
use Rattle.law_draws.specs.sf_surface.Objects.{ObjectOf, mark_of}
use Rattle.law_draws.specs.sf_surface.Tokens.{ReadLeaseOf}
use Rattle.law_draws.specs.sf_token.Arrivals.{sent, waiting}
use Rattle.law_draws.specs.sf_token.Pending.{Arrival}
use Rattle.law_draws.specs.sf_commit.Handlers.{HandlerOf}
use Rattle.law_draws.specs.sf_actor.Plain.{PlainOf, calls_among, home_of, is_queue, taken_in, view_of}
use Rattle.law_draws.specs.sf_actor.Rights.{Turn}
use Rattle.law_draws.specs.sf_actor.Tries.{ActorOf}
use Rattle.law_draws.proofs.sf_actor_set_lemmas.ArrivalLemmas.{sent_is, waiting_many}
use Rattle.law_draws.specs.law_rights.Standing.{state_of}
use Rattle.law_draws.specs.law_rights.Vsyncs.{lease_on}
use Rattle.law_threads.specs.Cuts.{Local, front, many_of, state_at}
use Rattle.law_threads.proofs.LedgerViews.{IsClose}
use Rattle.law_threads.proofs.Fronts.{front_all, front_length}
use Rattle.law_threads.specs.Members.{whole_of}

module _ {A : Type 0} where
  pub front_none : (xs : List A) → front 0 xs ≡ []
  front_none xs = let few = front_length 0 xs in nil_from_length (front 0 xs) (omega (arith, few))

  drop_joined : (xs ys : List A) → drop (length xs) (xs ++ ys) ≡ ys
  drop_joined [] ys = refl
  drop_joined (x ∷ xs) ys = drop_joined xs ys

-- what waits is what was sent and not taken
module _ {B : Type 0} where
  -- nothing was called on a queue that is not there
  pub not_called : (objects : List (ObjectOf B)) (queue : ℕ) → list_any (λ mark. mark.queue.0 == queue) (map mark_of objects) ≡ false → calls_among objects queue ≡ []
  not_called [] queue none = refl
  not_called (object ∷ objects) queue none =
      let parts = or_parts (is_queue queue object) (list_any (λ mark. mark.queue.0 == queue) (map mark_of objects)) none in
      rw parts.0 (not_called objects queue parts.1)

  waits_is : (desk : PlainOf B) → waiting desk.arrivals ≡ drop (home_of desk).taken (view_of desk).arrivals
  waits_is desk =
      let all = sent_is desk.arrivals in
      let many = waiting_many desk.arrivals in
      let lengths = ap (λ (xs : List (Arrival ReadLeaseOf)). length xs) all ∙ length-append (take (taken_in desk.arrivals) (sent desk.arrivals)) (waiting desk.arrivals) in
      let front_many : length (take (taken_in desk.arrivals) (sent desk.arrivals)) ≡ taken_in desk.arrivals = omega (arith, many, lengths) in
      sym (ap (drop (taken_in desk.arrivals)) all ∙ ap (λ (n : ℕ). drop n (take (taken_in desk.arrivals) (sent desk.arrivals) ++ waiting desk.arrivals)) (sym front_many)
      ∙ drop_joined (take (taken_in desk.arrivals) (sent desk.arrivals)) (waiting desk.arrivals))

  -- the state at the end is that of the desk, its actors and its compositor
  pub ends_close : (desk : PlainOf B) (lasts : List (Local B)) (ofs : List (ActorOf B)) (handler : HandlerOf ReadLeaseOf)
      → flat_map (λ (local : Local B). local.actors) lasts ≡ ofs → flat_map (λ (local : Local B). local.pending) lasts ≡ handler.pending → flat_map (λ (local : Local B). local.on) lasts ≡ map lease_on handler.on
      → flat_map (λ (local : Local B). local.leaves) lasts ≡ (view_of desk).turns.leaves → IsClose (state_at (whole_of desk) (many_of (whole_of desk)) lasts) (state_of (home_of desk) (view_of desk) ofs handler)
  ends_close desk lasts ofs handler actors pending on leaves = record {
    marks = refl;
    calls = λ i queue. sym (front_all (length ((view_of desk).calls queue)) ((view_of desk).calls queue) (omega arith)) i;
    actors = sym actors;
    waiting =
        ap (λ (xs : List (Arrival ReadLeaseOf)). xs ++ drop (home_of desk).taken (view_of desk).arrivals) (sym pending)
        ∙ ap (λ (xs : List (Arrival ReadLeaseOf)). flat_map (λ (local : Local B). local.pending) lasts ++ xs) (sym (waits_is desk) ∙ ap waiting (sym (front_all (length desk.arrivals) desk.arrivals (omega arith))));
    on = λ count. ap (sum_by count) (sym on);
    left = λ turn there. subst (λ (xs : List Turn). Contains xs turn) (sym leaves) there;
    all_left = λ turn there. subst (λ (xs : List Turn). Contains xs turn) leaves there;
  }
