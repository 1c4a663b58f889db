-- A load of each timeline in order.
use Rattle.std.proofs.Common.{◌≡◌, ℕ, suc, ◌+◌, ◌-◌, ◌<◌, ◌≤◌, ◌≢◌, List, [], ◌∷◌, ◌++◌, length, get_or, set, take, sym, ap, ◌∙◌, arith, add-one, append_assoc, length-set, length-take, get_or-set_other, get_or-set_same}
use Rattle.std.proofs.lemmas.List.{append-nil}
use Rattle.std.proofs.Math.Seq.{take-suc-set}
use mathlib.Core.Logic.{dite}
use native.Mathlib.Decide.{ℕ_discrete}
use Rattle.sf_base.specs.Points.{greatest, points_from}
use Rattle.sf_times.specs.Seats.{loaded, all_loaded, IsAlone, OnlyOwnSignals}
use Rattle.sf_times.specs.Views.{SeatView}
use Rattle.sf_base.proofs.PointLemmas.{greatest-append}

abbrev pub after_load : SeatView → ℕ × ℕ → SeatView
after_load v p = record v { knows = loaded v.knows p }

abbrev pub after_loads : SeatView → List (ℕ × ℕ) → SeatView
after_loads v ps = record v { knows = all_loaded v.knows ps }

pub record SoFar (v w : SeatView) (values : List ℕ) (i : ℕ) : Type 0 where
  pub wide : length values ≡ 64
  pub now : w ≡ after_loads v (points_from 1 (take i values))
  pub known : (t : ℕ) → 1 ≤ t → t ≤ i → greatest t v.knows.known ≤ get_or values (t - 1) 0
  pub signalled : (t : ℕ) → 1 ≤ t → t ≤ i → greatest t v.knows.signals ≤ get_or values (t - 1) 0
  pub exact : IsAlone v.knows → (t : ℕ) → 1 ≤ t → t ≤ i → get_or values (t - 1) 0 ≡ greatest t v.knows.signals
  pub told : 0 < i → IsAlone w.knows → OnlyOwnSignals w.knows

points_from-last : (t n : ℕ) (ns : List ℕ) → points_from t (ns ++ n ∷ []) ≡ points_from t ns ++ (t + length ns, n) ∷ []
points_from-last t n [] = let e : t + 0 ≡ t = omega arith in ap (λ (z : ℕ). (z, n) ∷ []) (sym e)
points_from-last t n (m ∷ ns) = let e : t + 1 + length ns ≡ t + suc (length ns) = omega arith in ap (λ z. (t, m) ∷ z) (points_from-last (t + 1) n ns ∙ ap (λ (z : ℕ). points_from (t + 1) ns ++ (z, n) ∷ []) e)

pub starts : (v : SeatView) (values : List ℕ) → length values ≡ 64 → SoFar v v values 0
starts v values wide = record {
  wide = wide;
  now = λ k. record v { knows = record v.knows { shown = sym (append-nil v.knows.shown) k; known = sym (append-nil v.knows.known) k } };
  known = λ t a b. absurd (omega arith);
  signalled = λ t a b. absurd (omega arith);
  exact = λ _ t a b. absurd (omega arith);
  told = λ a. absurd (omega arith);
}

module _ (v w w' : SeatView) (values : List ℕ) (i n : ℕ) (so : SoFar v w values i) (room : i < 64)
    (shown : w' ≡ after_load w (i + 1, n))
    (known : greatest (i + 1) w.knows.known ≤ n)
    (signalled : greatest (i + 1) w.knows.signals ≤ n)
    (exact : IsAlone w.knows → n ≡ greatest (i + 1) w.knows.signals)
    (told : IsAlone w'.knows → OnlyOwnSignals w'.knows) where
  same_signals : w.knows.signals ≡ v.knows.signals
  same_signals = ap (λ (z : SeatView). z.knows.signals) so.now

  still_alone : IsAlone v.knows → IsAlone w.knows
  still_alone a = (ap (λ (z : SeatView). z.knows.is_first) so.now ∙ a.0, ap (λ (z : SeatView). z.knows.out) so.now ∙ a.1)

  points : points_from 1 (take (i + 1) (set values i n)) ≡ points_from 1 (take i values) ++ (i + 1, n) ∷ []
  points = let wide = so.wide in let e : 1 + length (take i values) ≡ i + 1 = omega (arith, length-take i values) in
      ap (λ (z : ℕ). points_from 1 (take z (set values i n))) (add-one i) ∙ (ap (points_from 1) (take-suc-set values i n (omega arith)) ∙ (points_from-last 1 n (take i values) ∙ ap (λ (z : ℕ). points_from 1 (take i values) ++ (z, n) ∷ []) e))

  here : (t : ℕ) → t ≡ i + 1 → get_or (set values i n) (t - 1) 0 ≡ n
  here t e = let wide = so.wide in let b : t - 1 ≡ i = omega arith in ap (λ (z : ℕ). get_or (set values i n) z 0) b ∙ get_or-set_same values i n 0 (omega arith)

  there : (t : ℕ) → 1 ≤ t → t ≢ i + 1 → get_or (set values i n) (t - 1) 0 ≡ get_or values (t - 1) 0
  there t l ne = get_or-set_other values i (t - 1) n 0 (λ e. ne (omega arith))

  pub goes_on : SoFar v w' (set values i n) (i + 1)
  goes_on =
      let ps : List (ℕ × ℕ) = points_from 1 (take i values) in
      let grown : greatest (i + 1) v.knows.known ≤ n = let e = ap (λ (z : SeatView). greatest (i + 1) z.knows.known) so.now in omega (arith, greatest-append (i + 1) v.knows.known ps) in
      let risen : greatest (i + 1) v.knows.signals ≤ n = let e = ap (greatest (i + 1)) same_signals in omega arith in
      record {
        wide = length-set values i n ∙ so.wide;
        now = shown ∙ (ap (λ (z : SeatView). after_load z (i + 1, n)) so.now ∙ ((λ k. record v { knows = record v.knows { shown = append_assoc v.knows.shown ps ((i + 1, n) ∷ []) k; known = append_assoc v.knows.known ps ((i + 1, n) ∷ []) k } }) ∙ ap (after_loads v) (sym points)));
        known = λ t a b. dite (ℕ_discrete t (i + 1))
            (λ e. let f = ap (λ (z : ℕ). greatest z v.knows.known) e in let g = here t e in omega arith)
            (λ ne. let f = so.known t a (omega arith) in let g = there t a ne in omega arith);
        signalled = λ t a b. dite (ℕ_discrete t (i + 1))
            (λ e. let f = ap (λ (z : ℕ). greatest z v.knows.signals) e in let g = here t e in omega arith)
            (λ ne. let f = so.signalled t a (omega arith) in let g = there t a ne in omega arith);
        exact = λ alone t a b. dite (ℕ_discrete t (i + 1))
            (λ e. here t e ∙ (exact (still_alone alone) ∙ (ap (greatest (i + 1)) same_signals ∙ ap (λ (z : ℕ). greatest z v.knows.signals) (sym e))))
            (λ ne. there t a ne ∙ so.exact alone t a (omega arith));
        told = λ _. told;
      }
