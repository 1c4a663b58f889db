-- The fence without points.
use Rattle.std.proofs.Common.{◌≡◌, ◌∙◌, sym, ap, ℕ, zero, suc, ◌+◌, ◌-◌, ◌≤◌, max, List, [], ◌∷◌, length, replicate, slice_index, slice_set, subst, inl, inr, None, refl, arith}
use Rattle.std.proofs.lemmas.Bool.{cases_eq}
use Rattle.std.proofs.lemmas.List.{get_or-replicate, get_or-set_other, get_or-set_same, set-get_or}
use Rattle.sf_base.specs.Fences.{Fence, IsSignalled, SignalledTogether, SignalledWith, fence_from, first_open_of, greater_of_each, merged, no_points, open_from, value_of, with_point}
use Rattle.sf_base.specs.declared.fences.Points.{Points}
use Rattle.sf_base.specs.declared.fences.Seen.{Seen}
use Rattle.sf_base.proofs.FenceLemmas.{greater_of_each-at, open_from-more}

-- no timeline has a value
pub no_value : (f : Fence) (t : ℕ) → f ≡ no_points → 1 ≤ t → t ≤ 64 → value_of f.values t ≡ 0
unfolding no_points
no_value f t is low high = ap (λ (g : Fence). value_of g.values t) is ∙ get_or-replicate 64 (t - 1) 0 0 (omega (arith, low, high))

open_from-zeros : (n t : ℕ) (ss : List ℕ) → open_from t (replicate n 0) ss ≡ None
unfolding open_from
open_from-zeros zero t ss = refl
open_from-zeros (suc n) t [] = refl
open_from-zeros (suc n) t (s ∷ ss) = open_from-more t 0 s (replicate n 0) ss (omega arith) ∙ open_from-zeros n (t + 1) ss

-- it is signalled, whatever was observed
pub none_open : (f : Fence) (seen : Seen) → f ≡ no_points → first_open_of f seen ≡ None
unfolding first_open_of no_points
none_open f seen is = ap (λ (g : Fence). open_from 1 g.values seen.values) is ∙ open_from-zeros 64 1 seen.values

pub none_signalled : (f : Fence) (seen : Seen) → f ≡ no_points → IsSignalled f seen
none_signalled f seen is t low high =
    let none = no_value f t is low high in
    omega (arith, none)

zeros_first : (vs : List ℕ) → greater_of_each (replicate (length vs) 0) vs ≡ vs
unfolding greater_of_each
zeros_first [] = refl
zeros_first (v ∷ vs) =
    let here : max 0 v ≡ v = omega arith in
    let there = zeros_first vs in
    cc

zeros_last : (vs : List ℕ) → greater_of_each vs (replicate (length vs) 0) ≡ vs
unfolding greater_of_each
zeros_last [] = refl
zeros_last (v ∷ vs) =
    let here : max v 0 ≡ v = omega arith in
    let there = zeros_last vs in
    cc

-- a merge with it is the other fence
pub merged-none_first : (f g : Fence) → f ≡ no_points → length g.values ≡ 64 → merged f g ≡ g
unfolding merged no_points
merged-none_first f g is long =
    ap (λ (e : Fence). let m : Fence = record { values = greater_of_each e.values g.values } in m) is
    ∙ (ap (λ (n : ℕ). let m : Fence = record { values = greater_of_each (replicate n 0) g.values } in m) (sym long)
    ∙ ap (λ (vs : List ℕ). let m : Fence = record { values = vs } in m) (zeros_first g.values))

pub merged-none_last : (f g : Fence) → g ≡ no_points → length f.values ≡ 64 → merged f g ≡ f
unfolding merged no_points
merged-none_last f g is long =
    ap (λ (e : Fence). let m : Fence = record { values = greater_of_each f.values e.values } in m) is
    ∙ (ap (λ (n : ℕ). let m : Fence = record { values = greater_of_each f.values (replicate n 0) } in m) (sym long)
    ∙ ap (λ (vs : List ℕ). let m : Fence = record { values = vs } in m) (zeros_last f.values))

-- what a merge and a point more tell of signals
pub signalled_merge : (m f g : Fence) → m ≡ merged f g → length f.values ≡ length g.values → SignalledTogether m f g
unfolding merged
signalled_merge m f g is long seen =
    let at : (k : ℕ) → slice_index m.values k ≡ max (slice_index f.values k) (slice_index g.values k) = λ k. ap (λ (h : Fence). slice_index h.values k) is ∙ greater_of_each-at f.values g.values long k in (
      λ both. (
        λ t low high. let e = at (t - 1) in let h = both t low high in omega arith,
        λ t low high. let e = at (t - 1) in let h = both t low high in omega arith,
      ),
      λ each t low high. let e = at (t - 1) in let h = each.0 t low high in let i = each.1 t low high in omega arith,
    )

pub point_kept : (p q : Points) (new : List ℕ) (f : Fence) (t v : ℕ) → f ≡ fence_from p.values → q ≡ p → new ≡ slice_set q.values (t - 1) (max (value_of q.values t) v) → fence_from new ≡ with_point f t v
unfolding with_point
point_kept p q new f t v is same raised =
    ap fence_from raised
    ∙ (ap (λ (z : Points). fence_from (slice_set z.values (t - 1) (max (value_of z.values t) v))) same
    ∙ sym (ap (λ (g : Fence). fence_from (slice_set g.values (t - 1) (max (value_of g.values t) v))) is))

pub merge_kept : (p q r s : Points) (new : List ℕ) (f g : Fence) → f ≡ fence_from p.values → g ≡ fence_from r.values → q ≡ p → s ≡ r → new ≡ greater_of_each q.values s.values → fence_from new ≡ merged f g
unfolding merged
merge_kept p q r s new f g is_f is_g same others raised =
    ap fence_from raised
    ∙ (ap (λ (z : Points). fence_from (greater_of_each z.values s.values)) same
    ∙ (ap (λ (z : Points). fence_from (greater_of_each p.values z.values)) others
    ∙ sym (ap (λ (h : Fence). fence_from (greater_of_each h.values g.values)) is_f ∙ ap (λ (h : Fence). fence_from (greater_of_each p.values h.values)) is_g)))

-- a point of value 0 changes nothing
pub point_nothing : (f : Fence) (t v : ℕ) → v ≡ 0 → with_point f t v ≡ f
unfolding with_point
point_nothing f t v is =
    let same : max (value_of f.values t) v ≡ value_of f.values t = omega (arith, is) in
    ap (λ (n : ℕ). fence_from (slice_set f.values (t - 1) n)) same ∙ ap fence_from (set-get_or f.values (t - 1) 0)

-- what a point more tells of signals
pub signalled_point : (m f : Fence) (t v : ℕ) → m ≡ with_point f t v → length f.values ≡ 64 → 1 ≤ t → t ≤ 64 → SignalledWith m f t v
unfolding with_point
signalled_point m f t v is long low high seen =
    let here : slice_index m.values (t - 1) ≡ max (slice_index f.values (t - 1)) v = ap (λ (h : Fence). slice_index h.values (t - 1)) is ∙ get_or-set_same f.values (t - 1) (max (value_of f.values t) v) 0 (omega (arith, long, low, high)) in
    let there : (k : ℕ) → (k ≡ t - 1 → ⊥) → slice_index m.values k ≡ slice_index f.values k = λ k other. ap (λ (h : Fence). slice_index h.values k) is ∙ get_or-set_other f.values (t - 1) k (max (value_of f.values t) v) 0 other in (
      λ all. (
        λ u one most. elim (cases_eq u t) [
          | inl same ↦ subst (λ (k : ℕ). value_of f.values k ≤ value_of seen.values k) (sym same) (let h = all t low high in omega (arith, here, h))
          | inr other ↦ let e = there (u - 1) (λ e. other (omega (arith, e, one, low))) in let h = all u one most in omega (arith, e, h)
        ],
        let h = all t low high in omega (arith, here, h),
      ),
      λ each u one most. elim (cases_eq u t) [
        | inl same ↦ subst (λ (k : ℕ). value_of m.values k ≤ value_of seen.values k) (sym same) (let h = each.0 t low high in let i = each.1 in omega (arith, here, h, i))
        | inr other ↦ let e = there (u - 1) (λ e. other (omega (arith, e, one, low))) in let h = each.0 u one most in omega (arith, e, h)
      ],
    )

pub none_from : (f : Fence) → f ≡ no_points → f ≡ fence_from (replicate 64 0)
unfolding no_points
none_from f is = is
