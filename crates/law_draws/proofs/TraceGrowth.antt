-- Where an actor's trace grows by a step, a run goes on; and which calls are of steps that were done.
use Rattle.std.proofs.Common.{◌≡◌, ℕ, zero, suc, ◌+◌, ◌-◌, ◌<◌, ◌≤◌, ◌⊎◌, Bool, true, false, List, [], ◌∷◌, ◌++◌, arith, ap, ◌∙◌, sym, refl, inl, inr, subst, length, map, Option, Some, None}
use Rattle.std.specs.Prelude.{Contains, if◌then◌else◌, slice_get, slice_set}
use Rattle.std.specs.List.{find}
use Rattle.std.specs.Option.{option_map_or}
use Rattle.std.proofs.lemmas.Bool.{cases_Bool, cases_eq}
use Rattle.sf_slots.specs.declared.calls.Entry.{Entry}
use Rattle.law_rights.specs.sf_actor.declared.done.Done.{Done}
use Rattle.law_rights.specs.sf_actor.Makers.{BufferOf, Run, attached_at, before_attach, is_attached, making_of, makes}
use Rattle.law_rights.specs.sf_actor.Traces.{DoneAt, Past, next, no_past, places_from, places_of}
use Rattle.law_rights.specs.sf_actor.Tries.{ActorOf}
use Rattle.law_rights.specs.law_played.Actors.{number_of}
use Rattle.law_rights.proofs.TurnCounts.{first, later}
use Rattle.law_rights.proofs.StepMoves.{at_end, places_with}
use Rattle.law_rights.specs.Makers.{GoesOn}

module _ {A : Type 0} where
  got_front : (xs ys : List A) (i : ℕ) → i < length xs → slice_get (xs ++ ys) i ≡ slice_get xs i
  got_front [] ys i low = absurd (omega (arith, low))
  got_front (x ∷ xs) ys zero low = refl
  got_front (x ∷ xs) ys (suc i) low = got_front xs ys i (omega (arith, low))

  found_there : (p : A → Bool) (xs : List A) (x : A) → find p xs ≡ Some x → Contains xs x
  found_there p [] x found = absurd (cc (found))
  found_there p (y ∷ xs) x found = by_test (cases_Bool (p y)) (found_there p xs x)
    where
      by_test : (p y ≡ true) ⊎ (p y ≡ false) → (find p xs ≡ Some x → Contains xs x) → Contains (y ∷ xs) x
      by_test (inl met) further = let same : y ≡ x = cc (rw met at found) in subst (Contains (y ∷ xs)) same (first y xs)
      by_test (inr unmet) further = later y x xs (further (rw unmet at found))

places_long : (place : ℕ) (past : Past) (trace : List Done) → length (places_from place past trace) ≡ length trace
unfolding places_from
places_long place past [] = refl
places_long place past (done ∷ trace) = ap suc (places_long (place + 1) (next place past done) trace)

-- the numbers of actors stay where one of them goes on
pub numbers_stay : {B : Type 0} (ofs : List (ActorOf B)) (place : ℕ) (was is : ActorOf B) → slice_get ofs place ≡ Some was → is.script.number ≡ was.script.number → map number_of (slice_set ofs place is) ≡ map number_of ofs
numbers_stay [] place was is here same = refl
numbers_stay (of ∷ ofs) zero was is here same = let it : of ≡ was = cc (here) in ap (λ (n : ℕ). n ∷ map number_of ofs) (same ∙ sym (ap number_of it))
numbers_stay (of ∷ ofs) (suc place) was is here same = ap (λ (ns : List ℕ). number_of of ∷ ns) (numbers_stay ofs place was is here same)

-- each call of an actor that attached a buffer is one of a step that it has done
abbrev pub AttachesDone : (ℕ → List Done) → (ℕ → List Entry) → ℕ → Type 0
AttachesDone trace calls actor =
    (queue : ℕ) (entry : Entry) → Contains (calls queue) entry → entry.caller.0 ≡ actor → is_attached entry.reply ≡ true → (1 ≤ entry.step) × (entry.step ≤ length (trace actor))

module _ (old new : ℕ → List Done) (calls : ℕ → List Entry) (actor : ℕ) (done : Done) (others : (other : ℕ) → (other ≡ actor → ⊥) → new other ≡ old other) (grows : new actor ≡ old actor ++ done ∷ []) (within : AttachesDone old calls actor) where
  abbrev before : Run
  before = record { trace = old; calls = calls }

  abbrev after : Run
  after = record { trace = new; calls = calls }

  step_same : (queue : ℕ) (entry : Entry) → Contains (calls queue) entry → is_attached entry.reply ≡ true → slice_get (places_of (new entry.caller.0)) (entry.step - 1) ≡ slice_get (places_of (old entry.caller.0)) (entry.step - 1)
  step_same queue entry there attached = by_caller (cases_eq entry.caller.0 actor)
    where
      by_caller : (entry.caller.0 ≡ actor) ⊎ (entry.caller.0 ≡ actor → ⊥) → slice_get (places_of (new entry.caller.0)) (entry.step - 1) ≡ slice_get (places_of (old entry.caller.0)) (entry.step - 1)
      by_caller (inl own) =
          let low = within queue entry there own attached in
          let long = places_long 1 no_past (old actor) in
          ap (λ (n : ℕ). slice_get (places_of (new n)) (entry.step - 1)) own
          ∙ ap (λ (t : List Done). slice_get (places_of t) (entry.step - 1)) grows
          ∙ ap (λ (ps : List DoneAt). slice_get ps (entry.step - 1)) (places_with (old actor) done)
          ∙ got_front (places_of (old actor)) (at_end (old actor) done ∷ []) (entry.step - 1) (omega (arith, low.0, low.1, long))
          ∙ ap (λ (n : ℕ). slice_get (places_of (old n)) (entry.step - 1)) (sym own)
      by_caller (inr apart) = ap (λ (t : List Done). slice_get (places_of t) (entry.step - 1)) (others entry.caller.0 apart)

  same_before : (stay : BufferOf) (o : Option Entry) → making_of (calls stay.queue) stay.number ≡ o → before_attach after stay o ≡ before_attach before stay o
  same_before stay None made = refl
  same_before stay (Some entry) made = elim (cases_Bool (is_attached entry.reply)) [
    | inl met ↦
        ap (λ (o : Option DoneAt). if is_attached entry.reply then Some (option_map_or (attached_at stay) o stay) else None)
        (step_same stay.queue entry (found_there (λ (e : Entry). makes stay.number e.reply) (calls stay.queue) entry made) met)
    | inr unmet ↦ rw unmet refl
  ]

  pub trace_goes_on : GoesOn before after
  trace_goes_on = record {
    made = λ stay was. was;
    same = λ stay was. same_before stay (making_of (calls stay.queue) stay.number) refl;
  }
