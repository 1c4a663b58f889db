-- A look at timelines, over a desk that was made to know just what it showed.
use Rattle.std.proofs.Common.{◌≡◌, ℕ, zero, suc, ◌+◌, ◌-◌, ◌<◌, ◌==◌, true, List, [], ◌∷◌, arith, ap, ◌∙◌, sym, refl, inl, inr}
use Rattle.std.specs.Prelude.{slice_index}
use Rattle.std.proofs.lemmas.Bool.{cases_Bool, eq-eqb, eqb-true}
use Rattle.sf_base.specs.Fences.{value_of}
use Rattle.sf_base.specs.Points.{greatest, points_from, value_at}
use Rattle.sf_base.specs.declared.fences.Seen.{Seen}
use Rattle.law_draws.specs.sf_times.declared.protocol.Knows.{Knows}
use Rattle.law_draws.specs.sf_times.Seats.{all_loaded}
use Rattle.law_draws.specs.sf_actor.Desks.{DeskHome, DeskView}
use Rattle.law_draws.specs.sf_actor.Tries.{Sees}

apart_from : (t v first : ℕ) → (t ≡ first → ⊥) → value_at t (first, v) ≡ 0
apart_from t v first apart = elim (cases_Bool (first == t)) [
  | inl met ↦ absurd (apart (sym (eqb-true first t met)))
  | inr unmet ↦ rw unmet refl
]

-- no point of a number that comes before them
none_below : (t first : ℕ) (values : List ℕ) → t < first → greatest t (points_from first values) ≡ 0
none_below t first [] less = refl
none_below t first (v ∷ values) less =
    let here = apart_from t v first (λ same. absurd (omega (arith, less, same))) in
    let rest = none_below t (first + 1) values (omega (arith, less)) in
    omega (arith, here, rest)

at_first : (first v : ℕ) → value_at first (first, v) ≡ v
at_first first v = rw (eq-eqb first first refl) refl

points_value : (first k : ℕ) (values : List ℕ) → greatest (first + k) (points_from first values) ≡ slice_index values k
points_value first k [] = refl
points_value first zero (v ∷ values) =
    let same : greatest (first + 0) (points_from first (v ∷ values)) ≡ greatest first (points_from first (v ∷ values)) = ap (λ (t : ℕ). greatest t (points_from first (v ∷ values))) (omega arith) in
    let here = at_first first v in
    let rest = none_below first (first + 1) values (omega arith) in
    let all : greatest first (points_from first (v ∷ values)) ≡ v = omega (arith, here, rest) in
    same ∙ all
points_value first (suc k) (v ∷ values) =
    let here = apart_from (first + suc k) v first (λ same. absurd (omega (arith, same))) in
    let rest = points_value (first + 1) k values in
    let same : greatest ((first + 1) + k) (points_from (first + 1) values) ≡ greatest (first + suc k) (points_from (first + 1) values) = ap (λ (t : ℕ). greatest t (points_from (first + 1) values)) (omega arith) in
    let value : slice_index (v ∷ values) (suc k) ≡ slice_index values k = refl in
    omega (arith, here, rest, same, value)

-- a seat at which just this was signalled, and nothing seen
abbrev pub knows_just : Seen → Knows
knows_just seen = record { is_first = true; live = 1; out = 0; signals = points_from 1 seen.values; shown = []; known = [] }

abbrev pub saw_just : Seen → Knows
saw_just seen = all_loaded (knows_just seen) (points_from 1 seen.values)

pub sees_just : {B : Type 0} (home exact : DeskHome) (old looked : DeskView B) (seen : Seen) → Sees home old looked seen → (from to : DeskView B) → from.times ≡ knows_just seen → to.times ≡ saw_just seen → Sees exact from to seen
sees_just home exact old looked seen sees from to was is = record {
  all = sees.all;
  shown = is ∙ ap (λ (knows : Knows). all_loaded knows (points_from 1 seen.values)) (sym was);
  known = λ t low high. let none = ap (λ (knows : Knows). greatest t knows.known) was in omega (arith, none);
  exact = λ same t low high.
      let value = points_value 1 (t - 1) seen.values in
      let number : greatest (1 + (t - 1)) (points_from 1 seen.values) ≡ greatest t (points_from 1 seen.values) = ap (λ (n : ℕ). greatest n (points_from 1 seen.values)) (omega (arith, low)) in
      let signals = ap (λ (knows : Knows). greatest t knows.signals) was in
      let it : value_of seen.values t ≡ slice_index seen.values (t - 1) = refl in
      omega (arith, value, number, signals, it);
}
