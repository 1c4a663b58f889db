-- The run that actors over a desk tell is traced: each actor's calls and arrivals are those that its trace tells, and what
-- the desk knows of the timelines is no more than what they come to.
use Rattle.std.proofs.Common.{◌≡◌, ℕ, suc, ◌+◌, ◌-◌, ◌<◌, ◌≤◌, ◌==◌, Bool, true, false, List, [], ◌∷◌, ◌++◌, length, get_or, max, map, filter, refl, sym, ap, ◌∙◌, subst, inl, inr, arith}
use Rattle.std.specs.Prelude.{if◌then◌else◌, Contains, reverse, slice_index}
use Rattle.std.specs.List.{AllZip}
use Rattle.std.specs.List.Sorted.{IsStrictlyIncreasing}
use Rattle.std.proofs.lemmas.Bool.{cases_Bool, cases_eq, eq-eqb, eqb-true, ne_eqb}
use Rattle.std.proofs.lemmas.List.{get_or-set_other, get_or-set_same, length-set, map-append, reverse-append}
use Rattle.std.proofs.lemmas.List.Elements.{All-contains, Contains-get_or, filter-append}
use Rattle.std.proofs.lemmas.List.Kept.{AllPairs-from_increasing}
use Rattle.std.proofs.lemmas.List.Sorted.{Contains-permutation}
use Rattle.sf_base.specs.Fences.{Fence, no_points, value_of, with_point}
use Rattle.sf_base.specs.Points.{greatest, value_at}
use Rattle.sf_base.proofs.PointLemmas.{has_le}
use Rattle.sf_actor.specs.sf_slots.declared.calls.Entry.{Entry}
use Rattle.sf_actor.specs.sf_slots.Tells.{AreReplies}
use Rattle.sf_actor.specs.sf_surface.Histories.{Made, told, told_entry}
use Rattle.sf_actor.specs.sf_surface.Tokens.{ReadLeaseOf}
use Rattle.sf_actor.specs.sf_surface.declared.mark.QueueMark.{QueueMark}
use Rattle.sf_commit.specs.sf_token.Pending.{Arrival}
use Rattle.sf_script_scene.specs.Scene.{SceneValue}
use Rattle.sf_script_scene.specs.declared.step.ActorScript.{ActorScript}
use Rattle.sf_actor.specs.declared.done.Done.{Done}
use Rattle.sf_actor.specs.Desks.{DeskHome, DeskView, mark_among, values_of}
use Rattle.sf_actor.specs.Known.{AreAmong, Rise, arrivals_told, call_after, is_sent_by as sends, own_calls, plain_arrival, told_by}
use Rattle.sf_actor.specs.Scripts.{picture_at, with_points}
use Rattle.sf_actor.specs.ScriptTraces.{IsMade, IsTraceOf, made_on, sent_as}
use Rattle.sf_actor.specs.Traces.{made_by}
use Rattle.sf_actor.specs.Tries.{ActorOf, Keeps}
use Rattle.sf_actor.specs.Values.{replies_of}
use Rattle.sf_actor.proofs.GoingOn.{answered_on}
use Rattle.sf_actor.proofs.CallGrowth.{value-values}
use Rattle.law_played.specs.Actors.{AreActors, KnowsSignals, arrivals_of, number_of, run_of, script_of, trace_among}
use Rattle.law_played.specs.Runs.{AreTraced, IsTraced, calls_of, final_values, is_sent_by, own_in, signals_in}
use Rattle.law_played.proofs.Members.{has_cases, has_here, has_later, has_map, has_none, map_has}

-- what a place holds that was raised to a value, where it counts or not
raised : (old here new value : ℕ) (b : Bool) → here ≡ old → new ≡ max here value → max old (if b then value else 0) ≤ new
raised old here new value true e f = omega (arith, e, f)
raised old here new value false e f = omega (arith, e, f)

-- with a point more no value is less, and that of the point's timeline is at least its own
at_point : (fence : Fence) (p : ℕ × ℕ) (t : ℕ) → 1 ≤ t → t ≤ 64 → length fence.values ≡ 64
    → max (value_of fence.values t) (value_at t p) ≤ value_of (with_point fence p.0 p.1).values t
unfolding with_point
at_point fence p t low high sized =
    let now : List ℕ = (with_point fence p.0 p.1).values in
    let more : ℕ = max (value_of fence.values p.0) p.1 in
    elim (cases_eq (t - 1) (p.0 - 1)) [
      | inl same ↦
          let put : get_or now (p.0 - 1) 0 ≡ more = get_or-set_same fence.values (p.0 - 1) more 0 (omega (arith, same, low, high, sized)) in
          let here : value_of fence.values p.0 ≡ value_of fence.values t = ap (λ (k : ℕ). get_or fence.values k 0) (sym same) in
          subst (λ (k : ℕ). max (value_of fence.values t) (value_at t p) ≤ get_or now k 0) (sym same)
          (raised (value_of fence.values t) (value_of fence.values p.0) (get_or now (p.0 - 1) 0) p.1 (p.0 == t) here put)
      | inr apart ↦
          let kept : get_or now (t - 1) 0 ≡ value_of fence.values t = get_or-set_other fence.values (p.0 - 1) (t - 1) more 0 apart in
          let other : (p.0 == t) ≡ false = ne_eqb p.0 t (λ e. apart (ap (λ (k : ℕ). k - 1) (sym e))) in
          rw other (omega (arith, kept))
    ]

with_size : (fence : Fence) (p : ℕ × ℕ) → length fence.values ≡ 64 → length (with_point fence p.0 p.1).values ≡ 64
unfolding with_point
with_size fence p sized = length-set fence.values (p.0 - 1) (max (value_of fence.values p.0) p.1) ∙ sized

-- points make a fence at least as great as each of them
at_points : (fence : Fence) (points : List (ℕ × ℕ)) (t : ℕ) → 1 ≤ t → t ≤ 64 → length fence.values ≡ 64
    → max (value_of fence.values t) (greatest t points) ≤ value_of (with_points fence points).values t
at_points fence [] t low high sized = omega arith
at_points fence (p ∷ points) t low high sized =
    let first = at_point fence p t low high sized in
    let rest = at_points (with_point fence p.0 p.1) points t low high (with_size fence p sized) in
    omega (arith, first, rest)

none_sized : length no_points.values ≡ 64
unfolding no_points
none_sized = refl

-- among more points the greatest is no less
pub greatest_among : (t : ℕ) (points others : List (ℕ × ℕ)) → AreAmong points others → greatest t points ≤ greatest t others
greatest_among t [] others among = omega arith
greatest_among t (p ∷ points) others among =
    let rest = greatest_among t points others (λ q there. among q (has_later p q points there)) in
    let here : value_at t p ≤ greatest t others = elim (cases_Bool (p.0 == t)) [
      | inl met ↦ rw met (has_le t p.1 others (subst (λ (n : ℕ). Contains others (n, p.1)) (eqb-true p.0 t met) (among p (has_here p points))))
      | inr unmet ↦ rw unmet (omega arith)
    ] in
    omega (arith, rest, here)

-- one actor's arrivals, without rights
pub own_arrived : (actor : ℕ) (arrivals : List (Arrival ReadLeaseOf)) → filter (is_sent_by actor) (map plain_arrival arrivals) ≡ map plain_arrival (filter (sends actor) arrivals)
own_arrived actor [] = refl
own_arrived actor (arrived ∷ later) =
    let rest = own_arrived actor later in
    elim (cases_Bool (arrived.actor.0 == actor)) [
      | inl met ↦ rw met (ap (λ xs. plain_arrival arrived ∷ xs) rest)
      | inr unmet ↦ rw unmet rest
    ]

-- what senders are told of arrivals does not depend on their rights
told_plain : (tells : Bool) (arrivals : List (Arrival ReadLeaseOf)) → arrivals_told tells (map plain_arrival arrivals) ≡ map plain_arrival (arrivals_told tells arrivals)
told_plain true arrivals = refl
told_plain false arrivals = unnumbered arrivals
  where
    unnumbered : (arrivals : List (Arrival ReadLeaseOf)) → arrivals_told false (map plain_arrival arrivals) ≡ map plain_arrival (arrivals_told false arrivals)
    unnumbered [] = refl
    unnumbered (arrived ∷ later) = ap (λ xs. record (plain_arrival arrived) { number = 0 } ∷ xs) (unnumbered later)

module _ {B : Type 0} where
  -- calls with tokens tell plain ones, each of whose replies is what those before it say
  pub told_legal : (mark : QueueMark) (calls : List (Made B)) → AreReplies mark.width mark.height (told mark calls)
  unfolding told
  told_legal mark [] = tt
  told_legal mark (made ∷ earlier) = (refl, told_legal mark earlier)

  -- one actor's calls, as they are told
  pub own_told : (actor : ℕ) (mark : QueueMark) (calls : List (Made B)) → calls_of actor (told mark calls) ≡ map told_by (own_calls actor mark calls)
  unfolding told
  own_told actor mark [] = refl
  own_told actor mark (made ∷ earlier) =
      let is_by : Entry → Bool = λ entry. entry.caller.0 == actor in
      let last : Entry = told_entry mark (told mark earlier) made in
      let rest = own_told actor mark earlier in
      ap (filter is_by) (reverse-append (last ∷ []) (told mark earlier))
      ∙ filter-append is_by (reverse (told mark earlier)) (last ∷ [])
      ∙ elim (cases_Bool (made.by == actor)) [
        | inl met ↦ rw met (ap (λ (xs : List Entry). xs ++ last ∷ []) rest ∙ sym (map-append told_by (own_calls actor mark earlier) (call_after mark earlier made ∷ [])))
        | inr unmet ↦ rw unmet (ap (λ (xs : List Entry). xs ++ []) rest ∙ sym (map-append told_by (own_calls actor mark earlier) []))
      ]

  -- the first of rising numbers is no later one
  pub head_apart : (a of : ActorOf B) (ofs : List (ActorOf B)) → IsStrictlyIncreasing (map number_of (a ∷ ofs)) → Contains ofs of → number_of a < number_of of
  head_apart a of ofs rising there =
      let at = has_map number_of ofs of there in
      let below = AllPairs-from_increasing (map number_of (a ∷ ofs)) rising 0 (suc at.0) (number_of of) (omega arith) (omega (arith, at.1)) in
      subst (λ (n : ℕ). number_of a < n) at.2 below

  pub rising_later : (a : ActorOf B) (ofs : List (ActorOf B)) → IsStrictlyIncreasing (map number_of (a ∷ ofs)) → IsStrictlyIncreasing (map number_of ofs)
  rising_later a ofs rising k low =
      let next : suc k + 1 ≡ suc (k + 1) = omega arith in
      subst (λ (n : ℕ). slice_index (map number_of ofs) k < get_or (map number_of (a ∷ ofs)) n 0) next (rising (suc k) (omega (arith, low)))

  pub trace_here : (ofs : List (ActorOf B)) (of : ActorOf B) → IsStrictlyIncreasing (map number_of ofs) → Contains ofs of → trace_among ofs of.script.number ≡ of.trace
  trace_here [] of rising there = has_none of there
  trace_here (a ∷ ofs) of rising there = elim (has_cases a of ofs there) [
    | inl e ↦ let met : (a.script.number == of.script.number) ≡ true = eq-eqb a.script.number of.script.number (ap number_of e) in rw met (ap (λ (o : ActorOf B). o.trace) e)
    | inr c ↦
        let below = head_apart a of ofs rising c in
        let unmet : (a.script.number == of.script.number) ≡ false = ne_eqb a.script.number of.script.number (λ e. omega (arith, below, e)) in
        rw unmet (trace_here ofs of (rising_later a ofs rising) c)
  ]

  -- a script of the scene is that of one of the actors
  pub record IsPlayedBy (scene : SceneValue) (ofs : List (ActorOf B)) (home : DeskHome) (view : DeskView B) (script : ActorScript) : Type 0 where
    pub of : ActorOf B
    pub there : Contains ofs of
    pub is : of.script ≡ script
    pub keeps : Keeps (picture_at scene.pictures) home of view

  pub played_by : (scene : SceneValue) (ofs : List (ActorOf B)) (home : DeskHome) (view : DeskView B) (script : ActorScript) → AreActors scene ofs home view → Contains scene.actors script → IsPlayedBy scene ofs home view script
  played_by scene ofs home view script actors there =
      let found = map_has script_of ofs script (Contains-permutation scene.actors (map script_of ofs) script actors.scripts there) in
      record {
        of = found.0;
        there = found.1;
        is = found.2;
        keeps = All-contains (λ of. Keeps (picture_at scene.pictures) home of view) ofs found.0 actors.keep found.1;
      }

  -- what a desk that knows all signals knows of the timelines is no more than what they come to
  rise_to_final : (scene : SceneValue) (ofs : List (ActorOf B)) (home : DeskHome) (view : DeskView B) → KnowsSignals scene ofs home view → Rise (values_of view.times.known) (final_values scene (run_of ofs home view))
  rise_to_final scene ofs home view knows t low high =
      let known = value-values view.times.known t low high in
      let signalled = knows.all.signals.known t low high in
      let among = greatest_among t view.times.signals (signals_in scene (run_of ofs home view)) knows.made in
      let final = at_points no_points (signals_in scene (run_of ofs home view)) t low high none_sized in
      omega (arith, known, signalled, among, final)

  -- an actor that keeps what it keeps is traced
  traced_by : (scene : SceneValue) (ofs : List (ActorOf B)) (home : DeskHome) (view : DeskView B) (of : ActorOf B) → AreActors scene ofs home view → KnowsSignals scene ofs home view → Contains ofs of → Keeps (picture_at scene.pictures) home of view → IsTraced home.tells scene (run_of ofs home view) (arrivals_of view) of.script
  traced_by scene ofs home view of actors knows there keeps =
      let run = run_of ofs home view in
      let final = final_values scene run in
      let pictures = picture_at scene.pictures in
      let is = keeps.kept.kept.is in
      subst (λ (trace : List Done). IsTraceOf pictures of.script (own_in home.tells run (arrivals_of view) final of.script.number) trace (replies_of of.script.number trace)) (sym (trace_here ofs of actors.apart there)) (record {
        first = is.first;
        answered = answered_on pictures (values_of view.times.known) final of.trace (rise_to_final scene ofs home view knows) is.answered;
        replied = refl;
        made = λ queue.
            subst (λ (entries : List Entry). AllZip IsMade (made_on queue (made_by pictures of.trace)) entries)
            (sym (own_told of.script.number (mark_among home.marks queue) (view.calls queue))) (is.made queue);
        sent = ap (λ xs. map sent_as (arrivals_told home.tells xs)) (own_arrived of.script.number view.arrivals)
            ∙ ap (λ xs. map sent_as xs) (told_plain home.tells (filter (sends of.script.number) view.arrivals)) ∙ is.sent;
      })

  pub are_traced : (scene : SceneValue) (ofs : List (ActorOf B)) (home : DeskHome) (view : DeskView B) → AreActors scene ofs home view → KnowsSignals scene ofs home view → AreTraced home.tells scene (run_of ofs home view) (arrivals_of view)
  are_traced scene ofs home view actors knows k d low =
      let script = get_or scene.actors k d in
      let by = played_by scene ofs home view script actors (Contains-get_or scene.actors k d low) in
      subst (IsTraced home.tells scene (run_of ofs home view) (arrivals_of view)) by.is (traced_by scene ofs home view by.of actors knows by.there by.keeps)
