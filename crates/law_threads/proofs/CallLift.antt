-- A try that makes a call, lifted to the state of all callers, wherever that call is the next one on its queue.
use Rattle.std.proofs.Common.{◌≡◌, ℕ, suc, ◌+◌, ◌==◌, false, List, [], ◌∷◌, ◌++◌, arith, ap, ◌∙◌, sym, refl, inl, inr, subst, length, Option, Some, None}
use Rattle.std.specs.Prelude.{Contains, slice_get, slice_set}
use Rattle.std.specs.List.{flat_map, sum_by}
use Rattle.std.proofs.lemmas.Bool.{cases_Bool, eq-eqb, eqb-true}
use Rattle.std.proofs.lemmas.List.{append-nil, append_assoc}
use Rattle.std.proofs.lemmas.List.Elements.{Contains-append_left}
use Rattle.sf_base.specs.declared.status.QStatus.{QStatus}
use Rattle.law_draws.specs.sf_calls.Histories.{GoesOnWithout, IsLegal, entry}
use Rattle.sf_script_scene.specs.sf_picture.declared.picture.Picture.{Picture}
use Rattle.sf_script_scene.specs.declared.step.Step.{Step}
use Rattle.sf_script_scene.specs.declared.step.Step.TheVariants as step
use Rattle.law_draws.specs.sf_surface.declared.mark.QueueMark.{QueueMark}
use Rattle.law_draws.specs.sf_surface.declared.call.QReply.{QReply}
use Rattle.law_draws.specs.sf_surface.Histories.{Answers, Made}
use Rattle.law_draws.specs.sf_surface.Tokens.{ReadLeaseOf}
use Rattle.law_draws.specs.sf_token.Arrivals.{waiting}
use Rattle.law_draws.specs.sf_token.Pending.{Arrival}
use Rattle.law_draws.specs.sf_actor.Desks.{DeskHome, DeskView, MadeCall, has_queue, mark_among}
use Rattle.law_draws.specs.sf_actor.Holdings.{HoldingsOf}
use Rattle.law_draws.specs.sf_actor.Rights.{Turn}
use Rattle.law_draws.specs.sf_actor.Tests.{refusal_of}
use Rattle.law_draws.specs.sf_actor.Tries.{ActorOf}
use Rattle.law_draws.specs.sf_actor_steps.declared.bindings.Bindings.{Bindings}
use Rattle.law_draws.specs.sf_actor_steps.declared.tried.Tried.TheVariants as tried
use Rattle.law_draws.specs.sf_actor_steps.Acting.{Acts, Attempts}
use Rattle.law_draws.specs.sf_actor_steps.Calling.{Calls}
use Rattle.law_draws.specs.sf_actor_steps.Doing.{MakesCall}
use Rattle.law_draws.specs.sf_actor_steps.Forming.{permits_of}
use Rattle.law_draws.specs.sf_actor_steps.Bindings.{holdings_of}
use Rattle.law_draws.specs.law_rights.Calls.{buffers_in}
use Rattle.law_draws.specs.law_rights.Moves.{Gets}
use Rattle.law_draws.specs.law_rights.States.{AreApart, State, all_buffers}
use Rattle.law_draws.specs.law_rights.Tries.{TriesIn, WritesTry}
use Rattle.law_draws.proofs.law_rights_lemmas.TryKeepsLedger.{try_keeps, try_places}
use Rattle.law_draws.proofs.law_rights_lemmas.OwedAfterCall.{ending_left, turns_of}
use Rattle.law_draws.proofs.law_rights_lemmas.QueueCounts.{in_some}
use Rattle.law_threads.specs.Cuts.{AreUnused, Local, Whole, calls_at, front, state_at}
use Rattle.law_threads.specs.Lifts.{LiftsCall, local_of}
use Rattle.law_threads.specs.Orders.{raised}
use Rattle.law_threads.specs.Tries.{DoesTry}
use Rattle.law_threads.proofs.QueueCallTries.{MakesOne, acts_one, called_unrefused, ends_after, exactly, seat_after}
use Rattle.law_threads.proofs.LedgerViews.{GoesKept, GoesTo, IsClose}
use Rattle.law_threads.proofs.Fronts.{front_of}
use Rattle.law_threads.proofs.Locals.{gets_at, gets_in, got_at, parted, same_at, set_at}
use Rattle.law_threads.proofs.TryWrites.{CallsHere, queued, silent}

pub apart_suc : (other queue : ℕ) → (other ≡ queue → ⊥) → (suc other == suc queue) ≡ false
apart_suc other queue apart = elim (cases_Bool (suc other == suc queue)) [
  | inl met ↦ let same = eqb-true (suc other) (suc queue) met in absurd (apart (omega (arith, same)))
  | inr unmet ↦ unmet
]

pub zero_apart : (queue : ℕ) → (0 == suc queue) ≡ false
zero_apart queue = elim (cases_Bool (0 == suc queue)) [
  | inl met ↦ let same = eqb-true 0 (suc queue) met in absurd (omega (arith, same))
  | inr unmet ↦ unmet
]

module _ {A : Type 0} where
  -- the fronts of a history before and after a call of it
  pub front_before : (heights : ℕ → ℕ) (lock : ℕ) (calls more earlier : List A) (x : A) → calls ≡ more ++ x ∷ earlier → length earlier ≡ heights lock → front (heights lock) calls ≡ earlier
  front_before heights lock calls more earlier x is height =
      ap (λ (n : ℕ). front n calls) (sym height) ∙ ap (front (length earlier)) (is ∙ sym (append_assoc more (x ∷ []) earlier)) ∙ front_of (more ++ x ∷ []) earlier

  pub front_after : (heights : ℕ → ℕ) (lock : ℕ) (calls more earlier : List A) (x : A) → calls ≡ more ++ x ∷ earlier → length earlier ≡ heights lock → front (raised heights lock lock) calls ≡ x ∷ earlier
  front_after heights lock calls more earlier x is height =
      ap (λ (n : ℕ). front n calls) (raised_here ∙ omega (arith, height)) ∙ ap (front (length (x ∷ earlier))) is ∙ front_of more (x ∷ earlier)
    where
      raised_here : raised heights lock lock ≡ heights lock + 1
      raised_here = rw (eq-eqb lock lock refl) refl

module _ {B : Type 0} where
  pub actors_are : (others later : List (Local B)) (was is : ActorOf B) (on : List ReadLeaseOf) (leaves left : List Turn)
      → flat_map (λ (local : Local B). local.actors) (others ++ local_of is on left ∷ later)
      ≡ slice_set (flat_map (λ (local : Local B). local.actors) (others ++ local_of was on leaves ∷ later)) (length (flat_map (λ (local : Local B). local.actors) others)) is
  actors_are others later was is on leaves left =
      parted (λ (local : Local B). local.actors) others later (local_of is on left)
      ∙ sym (set_at (flat_map (λ (local : Local B). local.actors) others) (flat_map (λ (local : Local B). local.actors) later) was is)
      ∙ ap (λ (ofs : List (ActorOf B)). slice_set ofs (length (flat_map (λ (local : Local B). local.actors) others)) is) (sym (parted (λ (local : Local B). local.actors) others later (local_of was on leaves)))

  pub actor_there : (others later : List (Local B)) (was : ActorOf B) (on : List ReadLeaseOf) (leaves : List Turn)
      → slice_get (flat_map (λ (local : Local B). local.actors) (others ++ local_of was on leaves ∷ later)) (length (flat_map (λ (local : Local B). local.actors) others)) ≡ Some was
  actor_there others later was on leaves =
      ap (λ (ofs : List (ActorOf B)). slice_get ofs (length (flat_map (λ (local : Local B). local.actors) others))) (parted (λ (local : Local B). local.actors) others later (local_of was on leaves))
      ∙ got_at (flat_map (λ (local : Local B). local.actors) others) (flat_map (λ (local : Local B). local.actors) later) was

module _ {B : Type 0} (pictures : ℕ → Picture) (home : DeskHome) (was is : ActorOf B) (before after : Bindings B) (old new : DeskView B) (status : QStatus) (values : List ℕ)
    (before_state after_state : State B) (place : ℕ) (here : CallsHere before.by.0 place old new before_state.view.calls after_state.view.calls) where
  -- what a try that made a call wrote
  writes_called : (s : Step) → DoesTry pictures home was is s before after old new (tried.Called status values) → refusal_of pictures (holdings_of before) s ≡ None
      → Acts pictures home before.by.0 (length was.trace + 1) s before after old new (tried.Called status values)
      → WritesTry home before.by.0 (length was.trace + 1) s (holdings_of before) before_state after_state was.trace is.trace (tried.Called status values)
  writes_called (step.Queue name p time part points) tries none acts =
      queued pictures home was is name p time part points before after old new (tried.Called status values) tries before_state after_state place here acts.forms.0 acts.forms.1.held_there none status values
  writes_called (step.Draw name picture) tries none acts = absurd acts.tries
  writes_called s tries none acts = silent pictures home was is s before after old new (tried.Called status values) tries before_state after_state (λ answer. refl) status values

module _ {B : Type 0} (whole : Whole B) (pictures : ℕ → Picture) (home : DeskHome) (marks : whole.marks ≡ home.marks) (apart : AreApart home.marks)
    (absent : (queue : ℕ) → has_queue home queue ≡ false → whole.view.calls queue ≡ [])
    (was is : ActorOf B) (s : Step) (before after : Bindings B) (old new : DeskView B) (status : QStatus) (values : List ℕ)
    (tries : DoesTry pictures home was is s before after old new (tried.Called status values)) where
  acts : (refusal_of pictures (holdings_of before) s ≡ None) × Acts pictures home before.by.0 (length was.trace + 1) s before after old new (tried.Called status values)
  acts = called_unrefused pictures home (refusal_of pictures (holdings_of before) s) s (length was.trace + 1) before after old new status values tries.attempts

  pub one : MakesOne pictures home s (length was.trace + 1) before after old new (tried.Called status values)
  one = acts_one pictures home s (length was.trace + 1) before after old new status values acts.1

  abbrev pub queue : ℕ
  queue = one.makes.asking.queue.0

  abbrev pub reply : QReply B
  reply = one.makes.tries.0

  abbrev calls : Calls home before.by.0 (length was.trace + 1) one.makes.asking one.makes.taken one.called one.from new reply
  calls = one.makes.tries.3

  -- the calls on the queue before it
  abbrev pub earlier : List (Made B)
  earlier = calls.made.earlier

  abbrev pub made : Made B
  made = entry before.by.0 (length was.trace + 1, one.makes.asking.call) reply

  pub called_newest : new.calls queue ≡ made ∷ earlier
  called_newest = ap (λ (cs : ℕ → List (Made B)). cs queue) (ending_left reply.ends calls.made_view new calls.ends).1 ∙ calls.made.newest

  called_left : Gets old.turns.leaves (turns_of reply.ends) new.turns.leaves
  called_left = subst (λ (xs : List Turn). Gets xs (turns_of reply.ends) new.turns.leaves) (ap (λ (view : DeskView B). view.turns.leaves) calls.made.changes.same ∙ one.left)
      (ending_left reply.ends calls.made_view new calls.ends).0

  module _ (on : List ReadLeaseOf) (more : List (Made B)) (begins : whole.view.calls queue ≡ more ++ new.calls queue)
      (others later : List (Local B)) (heights : ℕ → ℕ) (next : length earlier ≡ heights (suc queue)) (unused : AreUnused whole heights (local_of was on old.turns.leaves)) where
    abbrev then : ℕ → ℕ
    then = raised heights (suc queue)

    abbrev old_state : State B
    old_state = state_at whole heights (others ++ local_of was on old.turns.leaves ∷ later)

    abbrev new_state : State B
    new_state = state_at whole then (others ++ local_of is on new.turns.leaves ∷ later)

    abbrev place : ℕ
    place = length (flat_map (λ (local : Local B). local.actors) others)

    abbrev from_state : State B
    from_state = record old_state { view = record old_state.view { times = one.times } }

    abbrev looked_view : DeskView B
    looked_view = record from_state.view { times = one.looked }

    abbrev made_view : DeskView B
    made_view = record looked_view { calls = calls_at whole then }

    abbrev to_state : State B
    to_state = record from_state { view = record made_view { turns = seat_after reply.ends made_view.turns }; actors = slice_set from_state.actors place is }

    whole_is : whole.view.calls queue ≡ more ++ made ∷ earlier
    whole_is = begins ∙ ap (λ (xs : List (Made B)). more ++ xs) called_newest

    before_is : calls_at whole heights queue ≡ earlier
    before_is = front_before heights (suc queue) (whole.view.calls queue) more earlier made whole_is next

    after_is : calls_at whole then queue ≡ made ∷ earlier
    after_is = front_after heights (suc queue) (whole.view.calls queue) more earlier made whole_is next

    others_are : (other : ℕ) → (other ≡ queue → ⊥) → calls_at whole then other ≡ calls_at whole heights other
    others_are other apart = ap (λ (n : ℕ). front n (whole.view.calls other)) (rw (apart_suc other queue apart) refl)

    same_arrivals : then 0 ≡ heights 0
    same_arrivals = rw (zero_apart queue) refl

    made_call : MadeCall (exactly home) looked_view made_view before.by.0 queue (length was.trace + 1, one.makes.asking.call) reply
    made_call = record {
      changes = record { same = refl; others = others_are; locked = omega arith };
      legal = subst (IsLegal (Answers (mark_among home.marks queue))) (calls.made.newest ∙ sym after_is) calls.made.legal;
      earlier = calls_at whole heights queue;
      newest = after_is ∙ ap (λ (xs : List (Made B)). made ∷ xs) (sym before_is);
      goes_on = record { begins = ([], refl); calls = refl };
      alone = λ same. refl;
    }

    makes : MakesCall pictures (exactly home) before.by.0 (length was.trace + 1) s before one.called looked_view to_state.view (tried.Called status values)
    makes = record {
      taken = one.makes.taken;
      asking = one.makes.asking;
      forms = one.makes.forms;
      tries = (
        reply,
        one.makes.tries.1,
        one.makes.tries.2,
        record { made_view = made_view; made = made_call; ends = ends_after reply.ends made_view; bindings = calls.bindings },
      );
    }

    here : CallsHere before.by.0 queue old new (calls_at whole heights) (calls_at whole then)
    here = record {
      new_is = after_is ∙ sym called_newest;
      goes_on = subst (λ (xs : List (Made B)). GoesOnWithout before.by.0 (old.calls queue) xs) (sym before_is)
          (subst (λ (cs : ℕ → List (Made B)). GoesOnWithout before.by.0 (cs queue) earlier) one.calls calls.made.goes_on);
      others = others_are;
    }

    unmade : (number : ℕ) → Contains (permits_of before) number → Contains (all_buffers from_state.marks from_state.view.calls) number → ⊥
    unmade number permit there =
        let at = in_some (λ (m : QueueMark). buffers_in m (calls_at whole heights m.queue.0)) whole.marks number there in
        unused number at.0 (Contains-append_left was.parts.stock [] number (subst (λ (parts : HoldingsOf B). Contains parts.stock number) (sym tries.parts_was) permit)) at.1 at.2

    tries_in : TriesIn pictures (exactly home) place s (tried.Called status values) before after from_state to_state
    tries_in = record {
      was = was;
      is = is;
      here = actor_there others later was on old.turns.leaves;
      actors = refl;
      parts_was = tries.parts_was;
      parts_is = tries.parts_is;
      writes = writes_called pictures home was is before after old new status values from_state to_state queue here s tries acts.0 acts.1;
      wide = tries.wide;
      ranges = tries.ranges;
      exact = refl;
      apart = apart;
      marks_old = marks;
      marks_new = marks;
      not_called = λ q none. ap (front (then (suc q))) (absent q none);
      sends = [];
      sent = sym (append-nil from_state.view.arrivals);
      waiting = sym (append-nil from_state.waiting);
      on = refl;
      unmade = unmade;
      attempts = subst (λ (o : Option ℕ). Attempts o pictures (exactly home) before.by.0 (length was.trace + 1) s before after from_state.view to_state.view (tried.Called status values)) (sym acts.0)
          (one.again from_state.view to_state.view refl makes);
    }

    close_to : IsClose to_state new_state
    close_to = record {
      marks = refl;
      calls = refl;
      actors = actors_are others later was is on old.turns.leaves new.turns.leaves;
      waiting =
          ap (λ (n : ℕ). flat_map (λ (local : Local B). local.pending) (others ++ local_of is on new.turns.leaves ∷ later) ++ waiting (front n whole.arriving)) same_arrivals
          ∙ ap (λ (xs : List (Arrival ReadLeaseOf)). xs ++ waiting (front (heights 0) whole.arriving))
          (same_at (λ (local : Local B). local.pending) others later (local_of was on old.turns.leaves) (local_of is on new.turns.leaves) refl);
      on = λ count. ap (sum_by count) (same_at (λ (local : Local B). local.on) others later (local_of was on old.turns.leaves) (local_of is on new.turns.leaves) refl);
      left = gets_in from_state.view.turns.leaves (turns_of reply.ends) new_state.view.turns.leaves to_state.view.turns.leaves all_left seat_left;
      all_left = gets_in from_state.view.turns.leaves (turns_of reply.ends) to_state.view.turns.leaves new_state.view.turns.leaves seat_left all_left;
    }
      where
        all_left : Gets from_state.view.turns.leaves (turns_of reply.ends) new_state.view.turns.leaves
        all_left = gets_at (λ (local : Local B). local.leaves) others later (local_of was on old.turns.leaves) (local_of is on new.turns.leaves) (turns_of reply.ends) called_left

        seat_left : Gets from_state.view.turns.leaves (turns_of reply.ends) to_state.view.turns.leaves
        seat_left = (ending_left reply.ends made_view to_state.view (ends_after reply.ends made_view)).0

    pub call_goes : GoesTo s before (length was.trace + 1) old_state new_state
    unfolding tries_in
    call_goes = record {
      from = from_state;
      to = to_state;
      close_from = record { marks = refl; calls = refl; actors = refl; waiting = refl; on = λ count. refl; left = λ turn there. there; all_left = λ turn there. there };
      close_to = close_to;
      went = λ ledger. record {
        ledger = try_keeps pictures (exactly home) place s (tried.Called status values) before after from_state to_state tries_in ledger;
        places = try_places pictures (exactly home) place s (tried.Called status values) before after from_state to_state tries_in ledger;
      };
    }

  pub lifts_call : (Holds : State B → Type 0) → GoesKept whole Holds was is s before → (on : List ReadLeaseOf) → ((q : ℕ) → (more : List (Made B)) × (whole.view.calls q ≡ more ++ new.calls q))
      → LiftsCall whole Holds before.by.0 was is on old new
  lifts_call Holds kept on begins = record {
    queue = queue;
    made = made;
    earlier = earlier;
    newest = called_newest;
    by_it = refl;
    step = refl;
    goes_on = subst (λ (cs : ℕ → List (Made B)). GoesOnWithout before.by.0 (cs queue) earlier) one.calls calls.made.goes_on;
    others = λ other apart. ap (λ (cs : ℕ → List (Made B)). cs other) (ending_left reply.ends calls.made_view new calls.ends).1 ∙ calls.made.changes.others other apart ∙ ap (λ (cs : ℕ → List (Made B)). cs other) one.calls;
    arrivals = (ending_left reply.ends calls.made_view new calls.ends).2 ∙ ap (λ (view : DeskView B). view.arrivals) calls.made.changes.same ∙ one.arrivals;
    lifts = λ others later heights next unused holds. kept others later on on old.turns.leaves new.turns.leaves [] heights (raised heights (suc queue)) (call_goes on (begins queue).0 (begins queue).1 others later heights next unused) holds;
  }
