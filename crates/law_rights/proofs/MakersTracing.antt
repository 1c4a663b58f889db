-- Traces that grow tell the same of the buffers that were attached before.
use Rattle.std.proofs.Common.{◌≡◌, ℕ, zero, suc, ◌+◌, ◌-◌, ◌<◌, ◌≤◌, ◌==◌, ◌⊎◌, Bool, true, false, List, [], ◌∷◌, ◌++◌, arith, ap, ◌∙◌, sym, refl, inl, inr, subst, length, map, Option, Some, None}
use Rattle.std.specs.Prelude.{Contains, if◌then◌else◌, reverse, slice_get, slice_set}
use Rattle.std.specs.List.{AllZip, find}
use Rattle.std.specs.List.Sorted.{IsStrictlyIncreasing}
use Rattle.std.specs.Option.{option_map_or}
use Rattle.std.proofs.lemmas.Bool.{cases_Bool, cases_eq, eq-eqb, ne_eqb}
use Rattle.std.proofs.lemmas.List.Elements.{Contains-append_cases}
use Rattle.sf_actor_set.specs.sf_picture.declared.picture.Picture.{Picture}
use Rattle.sf_slots.specs.declared.calls.Entry.{Entry}
use Rattle.sf_actor_set.specs.sf_actor.declared.done.Answered.{Answered}
use Rattle.sf_actor_set.specs.sf_actor.declared.done.Answered.TheVariants as answered
use Rattle.sf_actor_set.specs.sf_actor.declared.done.Done.{Done}
use Rattle.sf_actor_set.specs.sf_actor.Asking.{Asked, call_of, overtaken_by}
use Rattle.sf_actor_set.specs.sf_actor.Makers.{BufferOf, Run, attached_at, before_attach, is_attached, making_of, makes}
use Rattle.sf_actor_set.specs.sf_actor.Names.{FrameOf}
use Rattle.sf_actor_set.specs.sf_actor.Steps.{used_by, was_done}
use Rattle.sf_actor_set.specs.sf_actor.ScriptTraces.{IsMade, made_on}
use Rattle.sf_actor_set.specs.sf_actor.Traces.{DoneAt, MadeStep, Past, Source, made_at, made_by, next, no_past, overtaken, own_call, places_from, places_of, release_at, source_in}
use Rattle.sf_actor_set.specs.sf_actor.Tries.{ActorOf}
use Rattle.law_played.specs.Actors.{number_of, trace_among}
use Rattle.law_played.specs.Runs.{calls_of}
use Rattle.law_played.proofs.Members.{filter_has, has_filter, has_reverse, joined_has, map_has, zip_has}
use Rattle.law_played.proofs.RunTraces.{trace_here}
use Rattle.law_rights.proofs.TurnCounts.{first, in_front, later, none_in, the_only}
use Rattle.law_rights.proofs.DrawOrder.{places_late}
use Rattle.law_rights.proofs.StepLedger.{got_has, got_set}
use Rattle.law_rights.proofs.StepMoves.{at_end, places_with}
use Rattle.law_rights.specs.Makers.{GoesOn}

module _ {A : Type 0} where
  got_front : (xs ys : List A) (i : ℕ) → i < length xs → slice_get (xs ++ ys) i ≡ slice_get xs i
  got_front [] ys i low = absurd (omega (arith, low))
  got_front (x ∷ xs) ys zero low = refl
  got_front (x ∷ xs) ys (suc i) low = got_front xs ys i (omega (arith, low))

  pub got_last : (xs : List A) (y : A) → slice_get (xs ++ y ∷ []) (length xs) ≡ Some y
  got_last [] y = refl
  got_last (x ∷ xs) y = got_last xs y

  found_there : (p : A → Bool) (xs : List A) (x : A) → find p xs ≡ Some x → Contains xs x
  found_there p [] x found = absurd (cc (found))
  found_there p (y ∷ xs) x found = by_test (cases_Bool (p y)) (found_there p xs x)
    where
      by_test : (p y ≡ true) ⊎ (p y ≡ false) → (find p xs ≡ Some x → Contains xs x) → Contains (y ∷ xs) x
      by_test (inl met) further = let same : y ≡ x = cc (rw met at found) in subst (Contains (y ∷ xs)) same (first y xs)
      by_test (inr unmet) further = later y x xs (further (rw unmet at found))

-- the steps of a trace
places_long : (place : ℕ) (past : Past) (trace : List Done) → length (places_from place past trace) ≡ length trace
unfolding places_from
places_long place past [] = refl
places_long place past (done ∷ trace) = ap suc (places_long (place + 1) (next place past done) trace)

-- the step behind a trace is the last of the longer one
pub got_end : (trace : List Done) (done : Done) → slice_get (places_of (trace ++ done ∷ [])) (length trace + 1 - 1) ≡ Some (at_end trace done)
got_end trace done =
    let long = places_long 1 no_past trace in
    let last : length trace + 1 - 1 ≡ length (places_of trace) = omega (arith, long) in
    ap (λ (ps : List DoneAt). slice_get ps (length trace + 1 - 1)) (places_with trace done)
    ∙ ap (slice_get (places_of trace ++ at_end trace done ∷ [])) last
    ∙ got_last (places_of trace) (at_end trace done)

pub places_within : (place : ℕ) (past : Past) (trace : List Done) (at : DoneAt) → Contains (places_from place past trace) at → at.place < place + length trace
unfolding places_from
places_within place past [] at there = absurd (none_in at there)
places_within place past (done ∷ trace) at there =
    by_place (in_front (record { place = place; past = past; done = done }) at (places_from (place + 1) (next place past done) trace) there) (places_within (place + 1) (next place past done) trace at)
  where
    by_place : (record { place = place; past = past; done = done } ≡ at) ⊎ Contains (places_from (place + 1) (next place past done) trace) at
        → (Contains (places_from (place + 1) (next place past done) trace) at → at.place < place + 1 + length trace) → at.place < place + length (done ∷ trace)
    by_place (inl same) further = let e = ap (λ (a : DoneAt). a.place) same in omega (arith, e)
    by_place (inr rest) further = let more = further rest in omega (arith, more)

-- the calls of a step are made at its place
own_at : (place : ℕ) (asked : Option Asked) (answer : Answered) (source : Source) (made : MadeStep) → Contains (own_call place asked answer source) made → place ≡ made.step
own_at place (Some asked) (answered.Called replied) source made there =
    ap (λ (m : MadeStep). m.step) (the_only (record { step = place; asked = asked; told = Some replied; brings = source }) made there)
own_at place asked answer source made there = absurd (none_in made there)

overtaken_at : (place : ℕ) (frames : List FrameOf) (done : Bool) (made : MadeStep) → Contains (if done then map (release_at place) frames else []) made → place ≡ made.step
overtaken_at place frames true made there = ap (λ (m : MadeStep). m.step) (map_has (release_at place) frames made there).2
overtaken_at place frames false made there = absurd (none_in made there)

made_here : (pictures : ℕ → Picture) (at : DoneAt) (made : MadeStep) → Contains (made_at pictures at) made → at.place ≡ made.step
made_here pictures at made there = by_kind (Contains-append_cases own (overtaken at.place at.past.holdings at.done) made there)
  where
    own : List MadeStep
    own = own_call at.place (call_of pictures at.past.holdings at.done.step) at.done.answered (source_in at.past.since (used_by at.done.step))

    by_kind : Contains own made ⊎ Contains (overtaken at.place at.past.holdings at.done) made → at.place ≡ made.step
    by_kind (inl called) = own_at at.place (call_of pictures at.past.holdings at.done.step) at.done.answered (source_in at.past.since (used_by at.done.step)) made called
    by_kind (inr released) = overtaken_at at.place (overtaken_by at.past.holdings at.done.step) (was_done at.done.answered) made released

-- a call of an actor is one of a step that it has done
pub call_within : (pictures : ℕ → Picture) (trace : List Done) (actor queue : ℕ) (log : List Entry) → AllZip IsMade (made_on queue (made_by pictures trace)) (calls_of actor log) → (entry : Entry) → Contains log entry → entry.caller.0 ≡ actor
    → (1 ≤ entry.step) × (entry.step ≤ length trace)
call_within pictures trace actor queue log zip entry there own =
    let mine = has_filter (λ (e : Entry). e.caller.0 == actor) (reverse log) entry (eq-eqb entry.caller.0 actor own) (has_reverse log entry there) in
    let maker = zip_has IsMade (made_on queue (made_by pictures trace)) (calls_of actor log) entry zip mine in
    let some = filter_has (λ (m : MadeStep). m.asked.0.0 == queue) (made_by pictures trace) maker.0 maker.1 in
    let at = joined_has (made_at pictures) (places_of trace) maker.0 some.0 in
    let placed = made_here pictures at.0 maker.0 at.2 in
    let low = places_late 1 no_past trace at.0 at.1 in
    let high = places_within 1 no_past trace at.0 at.1 in
    let same = maker.2.step in
    (omega (arith, placed, low, same), omega (arith, placed, high, same))

module _ {B : Type 0} where
  -- one actor's trace alone changes
  numbers_stay : (ofs : List (ActorOf B)) (place : ℕ) (was is : ActorOf B) → slice_get ofs place ≡ Some was → is.script.number ≡ was.script.number → map number_of (slice_set ofs place is) ≡ map number_of ofs
  numbers_stay [] place was is here same = refl
  numbers_stay (of ∷ ofs) zero was is here same = let it : of ≡ was = cc (here) in ap (λ (n : ℕ). n ∷ map number_of ofs) (same ∙ sym (ap number_of it))
  numbers_stay (of ∷ ofs) (suc place) was is here same = ap (λ (ns : List ℕ). number_of of ∷ ns) (numbers_stay ofs place was is here same)

  pub trace_other : (ofs : List (ActorOf B)) (place number : ℕ) (was is : ActorOf B) → slice_get ofs place ≡ Some was → is.script.number ≡ was.script.number → (number ≡ was.script.number → ⊥)
      → trace_among (slice_set ofs place is) number ≡ trace_among ofs number
  trace_other [] place number was is here same apart = refl
  trace_other (of ∷ ofs) zero number was is here same apart =
      let it : of ≡ was = cc (here) in
      rw (ne_eqb is.script.number number (λ e. apart (sym e ∙ same)), ne_eqb of.script.number number (λ e. apart (sym e ∙ ap number_of it))) refl
  trace_other (of ∷ ofs) (suc place) number was is here same apart = ap (λ (trace : List Done). if of.script.number == number then of.trace else trace) (trace_other ofs place number was is here same apart)

  pub trace_now : (ofs : List (ActorOf B)) (place : ℕ) (was is : ActorOf B) → slice_get ofs place ≡ Some was → is.script.number ≡ was.script.number → IsStrictlyIncreasing (map number_of ofs)
      → trace_among (slice_set ofs place is) is.script.number ≡ is.trace
  trace_now ofs place was is here same apart =
      trace_here (slice_set ofs place is) is (subst IsStrictlyIncreasing (sym (numbers_stay ofs place was is here same)) apart) (got_has (slice_set ofs place is) place is (got_set ofs place was is here))

-- each call of an actor is one of a step that it has done
abbrev pub AreDone : (ℕ → List Done) → (ℕ → List Entry) → ℕ → Type 0
AreDone trace calls actor = (queue : ℕ) (entry : Entry) → Contains (calls queue) entry → entry.caller.0 ≡ actor → (1 ≤ entry.step) × (entry.step ≤ length (trace actor))

-- where one trace grows by a step, a run goes on
module _ (old new : ℕ → List Done) (calls : ℕ → List Entry) (actor : ℕ) (done : Done) (others : (other : ℕ) → (other ≡ actor → ⊥) → new other ≡ old other) (grows : new actor ≡ old actor ++ done ∷ []) (within : AreDone old calls actor) where
  abbrev before : Run
  before = record { trace = old; calls = calls }

  abbrev after : Run
  after = record { trace = new; calls = calls }

  step_same : (queue : ℕ) (entry : Entry) → Contains (calls queue) entry → slice_get (places_of (new entry.caller.0)) (entry.step - 1) ≡ slice_get (places_of (old entry.caller.0)) (entry.step - 1)
  step_same queue entry there = by_caller (cases_eq entry.caller.0 actor)
    where
      by_caller : (entry.caller.0 ≡ actor) ⊎ (entry.caller.0 ≡ actor → ⊥) → slice_get (places_of (new entry.caller.0)) (entry.step - 1) ≡ slice_get (places_of (old entry.caller.0)) (entry.step - 1)
      by_caller (inl own) =
          let low = within queue entry there own in
          let long = places_long 1 no_past (old actor) in
          ap (λ (n : ℕ). slice_get (places_of (new n)) (entry.step - 1)) own
          ∙ ap (λ (t : List Done). slice_get (places_of t) (entry.step - 1)) grows
          ∙ ap (λ (ps : List DoneAt). slice_get ps (entry.step - 1)) (places_with (old actor) done)
          ∙ got_front (places_of (old actor)) (at_end (old actor) done ∷ []) (entry.step - 1) (omega (arith, low.0, low.1, long))
          ∙ ap (λ (n : ℕ). slice_get (places_of (old n)) (entry.step - 1)) (sym own)
      by_caller (inr apart) = ap (λ (t : List Done). slice_get (places_of t) (entry.step - 1)) (others entry.caller.0 apart)

  same_before : (stay : BufferOf) (o : Option Entry) → making_of (calls stay.queue) stay.number ≡ o → before_attach after stay o ≡ before_attach before stay o
  same_before stay None made = refl
  same_before stay (Some entry) made =
      ap (λ (o : Option DoneAt). if is_attached entry.reply then Some (option_map_or (attached_at stay) o stay) else None)
      (step_same stay.queue entry (found_there (λ (e : Entry). makes stay.number e.reply) (calls stay.queue) entry made))

  pub traces_go_on : GoesOn before after
  traces_go_on = record {
    made = λ stay was. was;
    same = λ stay was. same_before stay (making_of (calls stay.queue) stay.number) refl;
  }
