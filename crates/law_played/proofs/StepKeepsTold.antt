-- What is told of actors over a desk stays told where one of them does a step.
use Rattle.std.proofs.Common.{◌≡◌, ◌≢◌, ℕ, zero, suc, ◌==◌, true, false, List, [], ◌∷◌, ◌++◌, get_or, set, map, filter, Some, refl, sym, ap, ◌∙◌, subst, inl, inr}
use Rattle.std.specs.Prelude.{All, Contains, slice_get}
use Rattle.std.specs.List.{range_with_len}
use Rattle.std.specs.List.Sorted.{IsPermutation, IsStrictlyIncreasing}
use Rattle.std.proofs.lemmas.Bool.{cases_Bool, cases_eq, eq-eqb, false≢true}
use Rattle.std.proofs.lemmas.List.{append-nil}
use Rattle.std.proofs.lemmas.List.Concat.{flat_map-append}
use Rattle.std.proofs.lemmas.List.Elements.{All-contains, Contains-append_cases, Contains-append_left, Contains-get_or}
use Rattle.std.proofs.lemmas.List.Sorted.{Contains-permutation, IsPermutation-sym}
use Rattle.sf_commit.specs.sf_calls.Histories.{GoesOnWithout, calls_by}
use Rattle.sf_actor.specs.sf_surface.Histories.{Made}
use Rattle.sf_actor.specs.sf_surface.Tokens.{ReadLeaseOf}
use Rattle.sf_commit.specs.sf_token.Pending.{Arrival}
use Rattle.sf_script_scene.specs.Limits.{IsActor as IsScript, IsWithinLimits, most_actors}
use Rattle.sf_script_scene.specs.Scene.{SceneValue}
use Rattle.sf_script_scene.specs.declared.step.ActorScript.{ActorScript}
use Rattle.sf_actor.specs.declared.done.Done.{Done}
use Rattle.sf_actor.specs.Desks.{DeskHome, DeskView, known_of}
use Rattle.sf_actor.specs.Known.{AreAmong, GoesOn, is_sent_by}
use Rattle.sf_actor.specs.Scripts.{picture_at}
use Rattle.sf_actor.specs.Tries.{ActorOf, Keeps}
use Rattle.sf_actor.specs.Written.{signal_of, signals_of}
use Rattle.law_played.specs.Actors.{AreActors, AreArrivals, IsCallBy, number_of, run_of, script_of, trace_among}
use Rattle.law_played.specs.Runs.{actor_number, rising_actors, signals_in}
use Rattle.law_played.proofs.ArrivedFrames.{any_passes}
use Rattle.law_played.proofs.Members.{has_cases, has_filter, has_first, has_here, has_joined, has_later, has_map, has_none, in_range, joined_has}
use Rattle.law_played.proofs.RunTraces.{trace_here}

-- a list with one item in the place of another
module _ {X : Type 0} where
  pub set_has : (xs : List X) (place : ℕ) (old new : X) → slice_get xs place ≡ Some old → Contains (set xs place new) new
  set_has [] place old new here = absurd (cc (here))
  set_has (x ∷ xs) zero old new here = has_here new xs
  set_has (x ∷ xs) (suc place) old new here = has_later x new (set xs place new) (set_has xs place old new here)

  pub got_has : (xs : List X) (place : ℕ) (old : X) → slice_get xs place ≡ Some old → Contains xs old
  got_has [] place old here = absurd (cc (here))
  got_has (x ∷ xs) zero old here = has_first x old xs (let e : x ≡ old = cc in e)
  got_has (x ∷ xs) (suc place) old here = has_later x old xs (got_has xs place old here)

  -- what is true of all members
  pub of_all : (P : X → Type 0) (xs : List X) → ((x : X) → Contains xs x → P x) → All P xs
  of_all P xs each k d low = each (get_or xs k d) (Contains-get_or xs k d low)

pub set_same : {X Y : Type 0} (f : X → Y) (xs : List X) (place : ℕ) (old new : X) → slice_get xs place ≡ Some old → f new ≡ f old → map f (set xs place new) ≡ map f xs
set_same f [] place old new here same = absurd (cc (here))
set_same {X} {Y} f (x ∷ xs) zero old new here same = (let e : old ≡ x = cc in ap (λ (y : Y). y ∷ map f xs) (same ∙ ap f e))
set_same {X} {Y} f (x ∷ xs) (suc place) old new here same = ap (λ (ys : List Y). f x ∷ ys) (set_same f xs place old new here same)

-- a script of the scene is among those by rising number
pub is_rising : (scene : SceneValue) (script : ActorScript) → IsWithinLimits scene → Contains scene.actors script → Contains (rising_actors scene) script
is_rising scene script limits there =
    let is = All-contains (IsScript (most_actors scene.version)) scene.actors script limits.actors.each there in
    has_joined (λ (n : ℕ). filter (λ (item : ActorScript). actor_number item == n) scene.actors) (range_with_len 1 (most_actors scene.version)) script.number script
    (in_range (most_actors scene.version) script.number is.low is.high)
    (has_filter (λ (item : ActorScript). actor_number item == script.number) scene.actors script (eq-eqb script.number script.number refl) there)

module _ {B : Type 0} where
  -- an actor has the place of another, of its script, and its trace goes on
  pub record Replaces (ofs : List (ActorOf B)) (place : ℕ) (old new : ActorOf B) : Type 0 where
    pub here : slice_get ofs place ≡ Some old
    pub script : new.script ≡ old.script
    pub more : List Done
    pub trace : new.trace ≡ old.trace ++ more

  pub same_numbers : (ofs : List (ActorOf B)) (place : ℕ) (old new : ActorOf B) → Replaces ofs place old new → map number_of (set ofs place new) ≡ map number_of ofs
  same_numbers ofs place old new by = set_same number_of ofs place old new by.here (ap (λ (script : ActorScript). script.number) by.script)

  -- they are actors of the scene still
  pub actors_kept : (scene : SceneValue) (ofs : List (ActorOf B)) (home : DeskHome) (before after : DeskView B) (place : ℕ) (old new : ActorOf B) → Replaces ofs place old new
      → All (λ (of : ActorOf B). Keeps (picture_at scene.pictures) home of after) (set ofs place new) → AreActors scene ofs home before → AreActors scene (set ofs place new) home after
  actors_kept scene ofs home before after place old new by keep actors = record {
    scripts = subst (λ (scripts : List ActorScript). IsPermutation scene.actors scripts) (sym (set_same script_of ofs place old new by.here by.script)) actors.scripts;
    apart = subst IsStrictlyIncreasing (sym (same_numbers ofs place old new by)) actors.apart;
    keep = keep;
  }

  -- each trace goes on, or is as before
  pub traces_on : (ofs : List (ActorOf B)) (place number : ℕ) (old new : ActorOf B) → Replaces ofs place old new → (later : List Done) × (trace_among (set ofs place new) number ≡ trace_among ofs number ++ later)
  traces_on [] place number old new by = absurd (cc (by.here))
  traces_on (of ∷ ofs) zero number old new by =
      let is : of ≡ old = (let here = by.here in cc) in
      let same : of.script.number ≡ new.script.number = ap (λ (o : ActorOf B). o.script.number) is ∙ ap (λ (script : ActorScript). script.number) (sym by.script) in
      elim (cases_Bool (of.script.number == number)) [
        | inl met ↦
            let now : (new.script.number == number) ≡ true = subst (λ (n : ℕ). (n == number) ≡ true) same met in
            rw (met, now) (by.more, by.trace ∙ ap (λ (o : ActorOf B). o.trace ++ by.more) (sym is))
        | inr unmet ↦
            let now : (new.script.number == number) ≡ false = subst (λ (n : ℕ). (n == number) ≡ false) same unmet in
            rw (unmet, now) ([], sym (append-nil (trace_among ofs number)))
      ]
  traces_on (of ∷ ofs) (suc place) number old new by =
      let rest = traces_on ofs place number old new (record { here = by.here; script = by.script; more = by.more; trace = by.trace }) in
      elim (cases_Bool (of.script.number == number)) [
        | inl met ↦ rw met ([], sym (append-nil of.trace))
        | inr unmet ↦ rw unmet rest
      ]

  -- no signal is forgotten, and those of the actor's steps are among them
  pub signals_more : (scene : SceneValue) (ofs : List (ActorOf B)) (home : DeskHome) (before after : DeskView B) (place : ℕ) (old new : ActorOf B) → Replaces ofs place old new
      → AreAmong (signals_in scene (run_of ofs home before)) (signals_in scene (run_of (set ofs place new) home after))
  signals_more scene ofs home before after place old new by p there =
      let signalled : List (ActorOf B) → ActorScript → List (ℕ × ℕ) = λ actors script. signals_of (trace_among actors script.number) in
      let at = joined_has (signalled ofs) (rising_actors scene) p there in
      let on = traces_on ofs place at.0.number old new by in
      let more = ap signals_of on.1 ∙ flat_map-append (λ (done : Done). signal_of done.step) (trace_among ofs at.0.number) on.0 in
      has_joined (signalled (set ofs place new)) (rising_actors scene) at.0 p at.1
      (subst (λ (xs : List (ℕ × ℕ)). Contains xs p) (sym more) (Contains-append_left (signals_of (trace_among ofs at.0.number)) (signals_of on.0) p at.2))

  signals_own : (scene : SceneValue) (ofs : List (ActorOf B)) (home : DeskHome) (view : DeskView B) (of : ActorOf B) → IsWithinLimits scene → AreActors scene ofs home view → Contains ofs of
      → AreAmong (signals_of of.trace) (signals_in scene (run_of ofs home view))
  signals_own scene ofs home view of limits actors there p inside =
      let own = Contains-permutation (map script_of ofs) scene.actors of.script (IsPermutation-sym scene.actors (map script_of ofs) actors.scripts) (has_map script_of ofs of there) in
      has_joined (λ (script : ActorScript). signals_of (trace_among ofs script.number)) (rising_actors scene) of.script p (is_rising scene of.script limits own)
      (subst (λ (trace : List Done). Contains (signals_of trace) p) (sym (trace_here ofs of actors.apart there)) inside)

  pub signals_kept : (scene : SceneValue) (ofs : List (ActorOf B)) (home : DeskHome) (before after : DeskView B) (place : ℕ) (old new : ActorOf B) (more : List (ℕ × ℕ)) → IsWithinLimits scene
      → Replaces ofs place old new → AreActors scene (set ofs place new) home after → AreAmong more (signals_of new.trace) → after.times.signals ≡ before.times.signals ++ more
      → AreAmong before.times.signals (signals_in scene (run_of ofs home before)) → AreAmong after.times.signals (signals_in scene (run_of (set ofs place new) home after))
  signals_kept scene ofs home before after place old new more limits by actors own grown kept p there =
      elim (Contains-append_cases before.times.signals more p (subst (λ (xs : List (ℕ × ℕ)). Contains xs p) grown there)) [
        | inl c ↦ signals_more scene ofs home before after place old new by p (kept p c)
        | inr c ↦ signals_own scene (set ofs place new) home after new limits actors (set_has ofs place old new by.here) p (own p c)
      ]

  -- a call of a caller is among its calls
  has_by : (calls : List (Made B)) (made : Made B) → Contains calls made → Contains (calls_by made.by calls) made
  has_by [] made there = has_none made there
  has_by (m ∷ calls) made there = elim (has_cases m made calls there) [
    | inl same ↦ let met : (m.by == made.by) ≡ true = eq-eqb m.by made.by (ap (λ (x : Made B). x.by) same) in rw met (has_first m made (calls_by made.by calls) same)
    | inr c ↦ elim (cases_Bool (m.by == made.by)) [
      | inl met ↦ rw met (has_later m made (calls_by made.by calls) (has_by calls made c))
      | inr unmet ↦ rw unmet (has_by calls made c)
    ]
  ]

  by_has : (caller : ℕ) (calls : List (Made B)) (made : Made B) → Contains (calls_by caller calls) made → Contains calls made
  by_has caller [] made there = has_none made there
  by_has caller (m ∷ calls) made there = elim (cases_Bool (m.by == caller)) [
    | inl met ↦ elim (has_cases m made (calls_by caller calls) (rw met at there)) [
      | inl same ↦ has_first m made calls same
      | inr c ↦ has_later m made calls (by_has caller calls made c)
    ]
    | inr unmet ↦ has_later m made calls (by_has caller calls made (rw unmet at there))
  ]

  -- where one actor alone called, each call is an actor's or a release still
  pub callers_kept : (ofs : List (ActorOf B)) (number : ℕ) (old new : List (Made B)) → Contains (map number_of ofs) number → ((other : ℕ) → other ≢ number → GoesOnWithout other old new)
      → All (IsCallBy ofs) old → All (IsCallBy ofs) new
  callers_kept ofs number old new own alone callers = of_all (IsCallBy ofs) new (λ made there. elim (cases_eq made.by number) [
    | inl same ↦ inr (subst (λ (n : ℕ). Contains (map number_of ofs) n) (sym same) own)
    | inr apart ↦
        let before = subst (λ (xs : List (Made B)). Contains xs made) (alone made.by apart).calls (has_by new made there) in
        All-contains (IsCallBy ofs) old made callers (by_has made.by old made before)
  ])

  -- the same of arrivals
  pub senders_kept : (ofs : List (ActorOf B)) (number : ℕ) (home : DeskHome) (old new : DeskView B) → Contains (map number_of ofs) number
      → ((other : ℕ) → other ≢ number → GoesOn other (known_of home old) (known_of home new)) → AreArrivals ofs old → AreArrivals ofs new
  senders_kept ofs number home old new own alone senders = of_all (λ (a : Arrival ReadLeaseOf). Contains (map number_of ofs) a.actor.0) new.arrivals (λ a there. elim (cases_eq a.actor.0 number) [
    | inl same ↦ subst (λ (n : ℕ). Contains (map number_of ofs) n) (sym same) own
    | inr apart ↦
        let goes = (alone a.actor.0 apart).arrivals in
        elim (Contains-append_cases old.arrivals goes.later a (subst (λ (xs : List (Arrival ReadLeaseOf)). Contains xs a) goes.joined there)) [
          | inl c ↦ All-contains (λ (a : Arrival ReadLeaseOf). Contains (map number_of ofs) a.actor.0) old.arrivals a senders c
          | inr c ↦ absurd (false≢true (sym goes.none ∙ any_passes (is_sent_by a.actor.0) goes.later a c (eq-eqb a.actor.0 a.actor.0 refl)))
        ]
  ])
