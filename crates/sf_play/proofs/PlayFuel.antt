-- How long a play lasts: each action lessens its fuel, and vsyncs do not pass those that were left.
use Rattle.std.proofs.lemmas.Option.{slice_get-get_or}
use Rattle.std.proofs.Common.{◌≡◌, ℕ, zero, suc, ◌+◌, ◌-◌, ◌*◌, ◌<◌, ◌≤◌, Bool, true, false, List, [], ◌∷◌, get_or, length, drop, map, Option, Some, None, refl, sym, ap, ◌∙◌, subst, inl, inr, arith}
use Rattle.std.specs.Prelude.{◌⊎◌, ◌==◌, nat_lt, slice_get}
use Rattle.std.specs.List.{All}
use Rattle.std.specs.List.Sorted.{IsStrictlyIncreasing}
use Rattle.std.proofs.lemmas.Bool.{cases_Bool, ltb-true}
use Rattle.std.proofs.lemmas.List.{length-map}
use Rattle.std.proofs.lemmas.List.Elements.{All-head, All-map, All-tail, All-weaker}
use Rattle.std.proofs.lemmas.List.Sums.{sum_by-cons}
use Rattle.std.proofs.Math.Nat.{mul-le-mul_right}
use Rattle.sf_script_scene.specs.Limits.{most_actors}
use Rattle.sf_script_scene.specs.declared.declarations.Pick.{Pick}
use Rattle.law_rights.specs.sf_actor_steps.declared.actor.Actor.{Actor}
use Rattle.sf_play.specs.Fuel.{fuel, now_in, round_fuel, rounds_left, steps_left, to_commit, actions_of, untaken, vsyncs_left, work_left}
use Rattle.sf_play.specs.Places.{behind, settled, settled_at}
use Rattle.sf_play.specs.Players.{PlayOf}
use Rattle.sf_play.specs.declared.place.Place.{Place}
use Rattle.sf_play.specs.declared.place.Place.TheVariants as at

-- the pick at a place is the first of those from there on
from_here : (order : List Pick) (place : ℕ) (pick : Pick) → slice_get order place ≡ Some pick → drop place order ≡ pick ∷ drop (place + 1) order
from_here [] place pick here = absurd (cc (here))
from_here (p ∷ order) zero pick here = (let same : p ≡ pick = cc in ap (λ (q : Pick). q ∷ order) same)
from_here (p ∷ order) (suc place) pick here =
    let next : suc (place + 1) ≡ suc place + 1 = omega arith in
    from_here order place pick here ∙ ap (λ (n : ℕ). pick ∷ drop n (p ∷ order)) next

-- the actions that are left of picks, before so much more
abbrev ahead : List Pick → ℕ → Place → ℕ
ahead order more (at.Order place done) = actions_of (drop place order) done + more
ahead order more other = more

behind_less : (order : List Pick) (place more : ℕ) → ahead order more (behind order place) ≤ actions_of (drop (place + 1) order) 0 + more
behind_less order place more = elim (cases_Bool (nat_lt (place + 1) (length order))) [
  | inl met ↦ rw met (omega arith)
  | inr unmet ↦ rw unmet (omega arith)
]

-- where the next action is done, no more is left
settled_less : (order : List Pick) (place done more : ℕ) (found : Option Pick) → slice_get order place ≡ found → ahead order more (settled_at order place done found) ≤ actions_of (drop place order) done + more
settled_less order place done more None e = omega arith
settled_less order place done more (Some pick) e =
    let split = ap (λ (later : List Pick). actions_of later done) (from_here order place pick e) in
    let less = behind_less order place more in
    elim (cases_Bool (nat_lt done pick.times)) [
      | inl met ↦ rw met (omega arith)
      | inr unmet ↦ rw unmet (omega (arith, less, split))
    ]

-- rounds with no more to do, and no more actions of the one that was begun, are no more
no_more : (work rounds actors many here place : ℕ) → work ≤ rounds → actors ≡ many → (many + 1) - here ≤ (many + 1) - place → work * (actors + 2) + ((actors + 1) - here) + 1 ≤ rounds * (many + 2) + ((many + 1) - place) + 1
no_more work rounds actors many here place less same turns =
    let product = mul-le-mul_right (many + 2) less in
    subst (λ (n : ℕ). work * (n + 2) + ((n + 1) - here) + 1 ≤ rounds * (many + 2) + ((many + 1) - place) + 1) (sym same) (omega (arith, product, turns))

module _ {B : Type 0} (order : List Pick) where
  fuel_behind : (play : PlayOf B) (place : ℕ) → fuel order play (behind order place) ≡ ahead order (round_fuel play 0 false) (behind order place)
  fuel_behind play place = elim (cases_Bool (nat_lt (place + 1) (length order))) [ inl met ↦ rw met refl | inr unmet ↦ rw unmet refl ]

  fuel_settled : (play : PlayOf B) (place done : ℕ) (found : Option Pick) → fuel order play (settled_at order place done found) ≡ ahead order (round_fuel play 0 false) (settled_at order place done found)
  fuel_settled play place done None = refl
  fuel_settled play place done (Some pick) = elim (cases_Bool (nat_lt done pick.times)) [ inl met ↦ rw met refl | inr unmet ↦ rw unmet (fuel_behind play place) ]

  vsyncs_behind : (play : PlayOf B) (place : ℕ) → vsyncs_left order play (behind order place) ≡ ahead order (rounds_left play false + 1) (behind order place)
  vsyncs_behind play place = elim (cases_Bool (nat_lt (place + 1) (length order))) [ inl met ↦ rw met refl | inr unmet ↦ rw unmet refl ]

  vsyncs_settled : (play : PlayOf B) (place done : ℕ) (found : Option Pick) → vsyncs_left order play (settled_at order place done found) ≡ ahead order (rounds_left play false + 1) (settled_at order place done found)
  vsyncs_settled play place done None = refl
  vsyncs_settled play place done (Some pick) = elim (cases_Bool (nat_lt done pick.times)) [ inl met ↦ rw met refl | inr unmet ↦ rw unmet (vsyncs_behind play place) ]

  pub settled_fuel : (play : PlayOf B) (place : Place) → fuel order play (settled order place) ≤ fuel order play place
  settled_fuel play (at.Order place done) =
      let found = slice_get order place in
      let same = fuel_settled play place done found in
      let less = settled_less order place done (round_fuel play 0 false) found refl in
      omega (arith, same, less)
  settled_fuel play (at.Round place stepped) = omega arith
  settled_fuel play at.End = omega arith

  pub settled_vsyncs : (play : PlayOf B) (place : Place) → vsyncs_left order play (settled order place) ≤ vsyncs_left order play place
  settled_vsyncs play (at.Order place done) =
      let found = slice_get order place in
      let same = vsyncs_settled play place done found in
      let less = settled_less order place done (rounds_left play false + 1) found refl in
      omega (arith, same, less)
  settled_vsyncs play (at.Round place stepped) = omega arith
  settled_vsyncs play at.End = omega arith

  -- an action of the order
  pub order_less : (old new : PlayOf B) (place done : ℕ) (pick : Pick) → slice_get order place ≡ Some pick → done < pick.times → work_left new ≤ work_left old
      → length new.actor_set.actors ≡ length old.actor_set.actors → fuel order new (at.Order place (done + 1)) < fuel order old (at.Order place done)
  order_less old new place done pick here left work many =
      let now = ap (λ (later : List Pick). actions_of later (done + 1)) (from_here order place pick here) in
      let was = ap (λ (later : List Pick). actions_of later done) (from_here order place pick here) in
      let rounds : rounds_left new false ≤ rounds_left old false = omega (arith, work) in
      let rest = no_more (rounds_left new false) (rounds_left old false) (length new.actor_set.actors) (length old.actor_set.actors) 0 0 rounds many (omega arith) in
      omega (arith, now, was, left, rest)

  -- an action of an actor in a round
  pub round_less : (old new : PlayOf B) (place : ℕ) (was did : Bool) → place < length old.actor_set.actors → rounds_left new did ≤ rounds_left old was
      → length new.actor_set.actors ≡ length old.actor_set.actors → fuel order new (at.Round (place + 1) did) < fuel order old (at.Round place was)
  round_less old new place was did low rounds many =
      let product = mul-le-mul_right (length old.actor_set.actors + 2) rounds in
      let same = ap (λ (n : ℕ). rounds_left new did * (n + 2)) many in
      omega (arith, product, same, many, low)

  -- a vsync after which a round begins again
  pub again_less : (old new : PlayOf B) (place : ℕ) (was : Bool) → rounds_left new false + 1 ≤ rounds_left old was → length new.actor_set.actors ≡ length old.actor_set.actors
      → fuel order new (at.Round 0 false) < fuel order old (at.Round place was)
  again_less old new place was rounds many =
      let product = mul-le-mul_right (length old.actor_set.actors + 2) rounds in
      let more : (rounds_left new false + 1) * (length old.actor_set.actors + 2) ≡ rounds_left new false * (length old.actor_set.actors + 2) + (length old.actor_set.actors + 2) = grind arith in
      let same = ap (λ (n : ℕ). rounds_left new false * (n + 2)) many in
      omega (arith, product, more, same, many)

  pub end_less : (old new : PlayOf B) (place : ℕ) (was : Bool) → fuel order new at.End < fuel order old (at.Round place was)
  end_less old new place was = omega arith

  -- what may be left of rounds
  pub did_step : (old new : PlayOf B) (was : Bool) → work_left new + 2 ≤ work_left old → rounds_left new true ≤ rounds_left old was
  did_step old new true work = omega (arith, work)
  did_step old new false work = omega (arith, work)

  pub did_nothing : (old new : PlayOf B) (was : Bool) → work_left new ≤ work_left old → rounds_left new was ≤ rounds_left old was
  did_nothing old new true work = omega (arith, work)
  did_nothing old new false work = omega (arith, work)

  pub goes_on : (old new : PlayOf B) (was : Bool) → work_left new ≤ work_left old → (was ≡ true) ⊎ (work_left new + 1 ≤ work_left old) → rounds_left new false + 1 ≤ rounds_left old was
  goes_on old new true work why = omega (arith, work)
  goes_on old new false work (inl stepped) = absurd (cc (stepped))
  goes_on old new false work (inr less) = omega (arith, less)

  -- vsyncs do not pass those that were left
  pub order_vsyncs : (old new : PlayOf B) (place done : ℕ) (pick : Pick) → slice_get order place ≡ Some pick → done < pick.times → work_left new ≤ work_left old → new.vsyncs ≤ old.vsyncs + 1
      → new.vsyncs + vsyncs_left order new (at.Order place (done + 1)) ≤ old.vsyncs + vsyncs_left order old (at.Order place done)
  order_vsyncs old new place done pick here left work vsyncs =
      let now = ap (λ (later : List Pick). actions_of later (done + 1)) (from_here order place pick here) in
      let was = ap (λ (later : List Pick). actions_of later done) (from_here order place pick here) in
      omega (arith, now, was, left, work, vsyncs)

  pub round_vsyncs : (old new : PlayOf B) (place next : ℕ) (was did : Bool) → rounds_left new did ≤ rounds_left old was → new.vsyncs ≡ old.vsyncs
      → new.vsyncs + vsyncs_left order new (at.Round next did) ≤ old.vsyncs + vsyncs_left order old (at.Round place was)
  round_vsyncs old new place next was did rounds vsyncs = omega (arith, rounds, vsyncs)

  pub again_vsyncs : (old new : PlayOf B) (place : ℕ) (was : Bool) → rounds_left new false + 1 ≤ rounds_left old was → new.vsyncs ≡ old.vsyncs + 1
      → new.vsyncs + vsyncs_left order new (at.Round 0 false) ≤ old.vsyncs + vsyncs_left order old (at.Round place was)
  again_vsyncs old new place was rounds vsyncs = omega (arith, rounds, vsyncs)

  pub end_vsyncs : (old new : PlayOf B) (place : ℕ) (was : Bool) → new.vsyncs ≡ old.vsyncs + 1 → new.vsyncs + vsyncs_left order new at.End ≤ old.vsyncs + vsyncs_left order old (at.Round place was)
  end_vsyncs old new place was vsyncs = omega (arith, vsyncs)

-- a place in the order at which the next action is done has a pick with an action left
pub record HasAction (order : List Pick) (place done : ℕ) : Type 0 where
  pub pick : Pick
  pub here : slice_get order place ≡ Some pick
  pub left : done < pick.times

abbrev HasIfOrder : List Pick → Place → Type 0
HasIfOrder order (at.Order place done) = HasAction order place done
HasIfOrder order other = Unit {0}

has_behind : (order : List Pick) (place : ℕ) → All (λ (pick : Pick). 1 ≤ pick.times) order → HasIfOrder order (behind order place)
has_behind order place times = elim (cases_Bool (nat_lt (place + 1) (length order))) [
  | inl met ↦
      let low = ltb-true (place + 1) (length order) met in
      let pick = get_or order (place + 1) (record { actor = 0; times = 0 }) in
      rw met (record { pick = pick; here = slice_get-get_or order (place + 1) (record { actor = 0; times = 0 }) low; left = times (place + 1) (record { actor = 0; times = 0 }) low })
  | inr unmet ↦ rw unmet tt
]

has_settled : (order : List Pick) (place done : ℕ) (found : Option Pick) → slice_get order place ≡ found → All (λ (pick : Pick). 1 ≤ pick.times) order → HasIfOrder order (settled_at order place done found)
has_settled order place done None e times = tt
has_settled order place done (Some pick) e times = elim (cases_Bool (nat_lt done pick.times)) [
  | inl met ↦ rw met (record { pick = pick; here = e; left = ltb-true done pick.times met })
  | inr unmet ↦ rw unmet (has_behind order place times)
]

pub settled_has : (order : List Pick) (from : Place) (place done : ℕ) → All (λ (pick : Pick). 1 ≤ pick.times) order → settled order from ≡ at.Order place done → HasAction order place done
settled_has order (at.Order p d) place done times e = subst (HasIfOrder order) e (has_settled order p d (slice_get order p) refl times)
settled_has order (at.Round p stepped) place done times e = absurd (cc (e))
settled_has order at.End place done times e = absurd (cc (e))

-- the actions of all picks are few
few_actions : (order : List Pick) (done : ℕ) → All (λ (pick : Pick). pick.times ≤ 256) order → actions_of order done ≤ 256 * length order
few_actions [] done times = omega arith
few_actions (pick ∷ later) done times =
    let rest = few_actions later 0 (All-tail (λ (p : Pick). p.times ≤ 256) pick later times) in
    let here = All-head (λ (p : Pick). p.times ≤ 256) pick later times in
    omega (arith, rest, here)

-- numbers that rise from 1 on are no more than the greatest
rises : (numbers : List ℕ) (k : ℕ) → IsStrictlyIncreasing numbers → k < length numbers → get_or numbers 0 0 + k ≤ get_or numbers k 0
rises numbers zero up low = omega arith
rises numbers (suc k) up low =
    let before = rises numbers k up (omega (arith, low)) in
    let step = up k (omega (arith, low)) in
    let same : k + 1 ≡ suc k = omega arith in
    let place = ap (λ (n : ℕ). get_or numbers n 0) same in
    omega (arith, before, step, place)

pub many_below : (numbers : List ℕ) (most : ℕ) → IsStrictlyIncreasing numbers → All (λ (n : ℕ). (1 ≤ n) × (n ≤ most)) numbers → length numbers ≤ most
many_below [] most up within = omega arith
many_below (n ∷ later) most up within =
    let last = rises (n ∷ later) (length later) up (omega arith) in
    let first = (within 0 0 (omega arith)).0 in
    let high = (within (length later) 0 (omega arith)).1 in
    omega (arith, last, first, high)

-- a scene has few actors
pub few_actors : (version : ℕ) → most_actors version ≤ 64
few_actors version = elim (cases_Bool (version == 2)) [
  | inl met ↦ rw met (omega arith)
  | inr unmet ↦ rw unmet (omega arith)
]

module _ {B : Type 0} where
  few_steps : (actors : List (Actor B)) → All (λ (actor : Actor B). length actor.script.steps ≤ 4096) actors → steps_left actors ≤ 4096 * length actors
  few_steps [] few = omega arith
  few_steps (actor ∷ later) few =
      let rest = few_steps later (All-tail (λ (a : Actor B). length a.script.steps ≤ 4096) actor later few) in
      let here = All-head (λ (a : Actor B). length a.script.steps ≤ 4096) actor later few in
      let sum = sum_by-cons (λ (a : Actor B). length a.script.steps - length a.replies.items) actor later in
      omega (arith, rest, here, sum)

  -- at the start of a play of at most 64 actors all its vsyncs fit 32 bits
  pub vsyncs_fit : (order : List Pick) (play : PlayOf B) → length order ≤ 1048576 → All (λ (pick : Pick). pick.times ≤ 256) order
      → IsStrictlyIncreasing (map (λ (actor : Actor B). actor.script.number) play.actor_set.actors)
      → All (λ (actor : Actor B). ((1 ≤ actor.script.number) × (actor.script.number ≤ 64)) × (length actor.script.steps ≤ 4096)) play.actor_set.actors
      → play.handler.pending ≡ [] → untaken play ≡ [] → vsyncs_left order play (at.Order 0 0) < 4294967295
  vsyncs_fit order play few times up each pending none =
      let actors = play.actor_set.actors in
      let numbers = map (λ (actor : Actor B). actor.script.number) actors in
      let within = All-map (λ (n : ℕ). (1 ≤ n) × (n ≤ 64)) (λ (actor : Actor B). actor.script.number) actors
      (All-weaker (λ (actor : Actor B). ((1 ≤ actor.script.number) × (actor.script.number ≤ 64)) × (length actor.script.steps ≤ 4096))
      (λ (actor : Actor B). (1 ≤ actor.script.number) × (actor.script.number ≤ 64)) (λ actor is. is.0) actors each) in
      let many = many_below numbers 64 up within in
      let mapped = length-map actors (λ (actor : Actor B). actor.script.number) in
      let steps = few_steps actors (All-weaker (λ (actor : Actor B). ((1 ≤ actor.script.number) × (actor.script.number ≤ 64)) × (length actor.script.steps ≤ 4096))
      (λ (actor : Actor B). length actor.script.steps ≤ 4096) (λ actor is. is.1) actors each) in
      let turns = few_actions order 0 times in
      let waits = ap (to_commit (now_in play)) pending in
      let sent = ap (to_commit (now_in play)) none in
      omega (arith, few, many, mapped, steps, turns, waits, sent)
