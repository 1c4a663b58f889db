-- Rectangles of bands that are passed over, since they share no point with another one.
use Rattle.std.proofs.Common.{◌≡◌, ℕ, zero, suc, ◌+◌, ◌<◌, ◌≤◌, ◌⊎◌, List, [], ◌∷◌, length, refl, sym, ◌∙◌, ap, subst, arith, ⊎_elim, Bool, true, false, inl, inr}
use Rattle.std.specs.Prelude.{◌&&◌, ◌||◌, nat_le, nat_lt, ℤ, pos, slice_index_or, take}
use Rattle.std.proofs.lemmas.Bool.{and_left, and_right, and_parts, cases_lt, leb-true, ltb-true}
use Rattle.sf_base.specs.Geometry.{covers}
use Rattle.sf_base.specs.declared.geometry.Rect.{Rect}
use Rattle.sf_region.specs.inner.Bands.{EndsBefore}
use Rattle.sf_region.specs.Canonical.{AllFollow, Follows, IsBanded, IsFull}
use Rattle.sf_region.specs.Edges.{offset, left, right, top, bottom}
use Rattle.sf_region.specs.Points.{IsInBounds, has}
use Rattle.sf_region.proofs.PointLemmas.{covers_is}
use Rattle.sf_region.proofs.SpanLemmas.{span_after, span_before}

-- what stands for a rectangle of an empty list
abbrev pub nowhere : Rect
nowhere = record { x = pos 0; y = pos 0; width = 0; height = 0 }

-- an element is what it is, whatever stands for one that is not there
pub same_at : (rs : List Rect) (k : ℕ) (d e : Rect) → k < length rs → slice_index_or rs k d ≡ slice_index_or rs k e
same_at [] k d e h = absurd (omega (arith, h))
same_at (r ∷ rs) zero d e h = refl
same_at (r ∷ rs) (suc k) d e h = same_at rs k d e (omega (arith, h))

-- one of two rectangles ends before the other begins, across or down
abbrev pub AreApart : Rect → Rect → Type 0
AreApart r q = (bottom r ≤ top q) ⊎ ((bottom q ≤ top r) ⊎ ((right r ≤ left q) ⊎ (right q ≤ left r)))

record IsAt (q : Rect) (x y : ℤ) : Type 0 where
  pub after : left q ≤ offset x
  pub before : offset x < right q
  pub below : top q ≤ offset y
  pub above : offset y < bottom q

at_point : (q : Rect) (x y : ℤ) → IsInBounds q → covers q x y ≡ true → IsAt q x y
at_point q x y near h =
    let parts = and_parts _ _ (sym (covers_is q x y near) ∙ h) in
    let across = and_parts _ _ parts.0 in
    let down = and_parts _ _ parts.1 in
    record {
      after = leb-true _ _ across.0;
      before = ltb-true _ _ across.1;
      below = leb-true _ _ down.0;
      above = ltb-true _ _ down.1;
    }

-- then they share no point
apart_point : (r q : Rect) (x y : ℤ) → IsInBounds r → IsInBounds q → AreApart r q → covers q x y ≡ true → covers r x y ≡ false
apart_point r q x y near other apart h =
    let wide : Bool = nat_le (left r) (offset x) && nat_lt (offset x) (right r) in
    let tall : Bool = nat_le (top r) (offset y) && nat_lt (offset y) (bottom r) in
    let at : IsAt q x y = at_point q x y other h in
    covers_is r x y near ∙ elim apart [
      | inl over ↦ and_right wide tall (span_after (top r) (bottom r) (offset y) (omega (arith, over, at.below)))
      | inr rest ↦ elim rest [
        | inl under ↦ and_right wide tall (span_before (top r) (bottom r) (offset y) (omega (arith, under, at.above)))
        | inr beside ↦ elim beside [
          | inl west ↦ and_left wide tall (span_after (left r) (right r) (offset x) (omega (arith, west, at.after)))
          | inr east ↦ and_left wide tall (span_before (left r) (right r) (offset x) (omega (arith, east, at.before)))
        ]
      ]
    ]

-- each rectangle of bands is full, and follows those before it
pub full_at : (rs : List Rect) (k : ℕ) (d : Rect) → IsBanded rs → k < length rs → IsFull (slice_index_or rs k d)
full_at [] k d b h = absurd (omega (arith, h))
full_at (r ∷ rs) zero d b h = b.0
full_at (r ∷ rs) (suc k) d b h = full_at rs k d b.2 (omega (arith, h))

follows_at : (r : Rect) (rs : List Rect) (m : ℕ) (d : Rect) → AllFollow r rs → m < length rs → Follows r (slice_index_or rs m d)
follows_at r [] m d a h = absurd (omega (arith, h))
follows_at r (q ∷ qs) zero d a h = a.0
follows_at r (q ∷ qs) (suc m) d a h = follows_at r qs m d a.1 (omega (arith, h))

follow_at : (rs : List Rect) (k m : ℕ) (d : Rect) → IsBanded rs → k < m → m < length rs → Follows (slice_index_or rs k d) (slice_index_or rs m d)
follow_at [] k m d b less h = absurd (omega (arith, h))
follow_at (r ∷ rs) k zero d b less h = absurd (omega (arith, less))
follow_at (r ∷ rs) zero (suc m) d b less h = follows_at r rs m d b.1 (omega (arith, h))
follow_at (r ∷ rs) (suc k) (suc m) d b less h = follow_at rs k m d b.2 (omega (arith, less)) (omega (arith, h))

-- what stands before a rectangle that ends early ends early
follows_early : (r q : Rect) (low column : ℕ) → IsFull q → Follows r q → EndsBefore low column q → EndsBefore low column r
follows_early r q low column full follows early = elim follows [
  | inl above ↦ elim early [
    | inl less ↦ inl (omega (arith, above, full.high, less))
    | inr same ↦ inl (omega (arith, above, full.high, same.0))
  ]
  | inr beside ↦ elim early [
    | inl less ↦ inl (omega (arith, beside.1, less))
    | inr same ↦ inr ((omega (arith, beside.1, same.0)), (omega (arith, beside.2, full.wide, same.1)))
  ]
]

pub ends_early : (rs : List Rect) (k m : ℕ) (d : Rect) (low column : ℕ) → IsBanded rs → k ≤ m → m < length rs → EndsBefore low column (slice_index_or rs m d) → EndsBefore low column (slice_index_or rs k d)
ends_early rs k m d low column b le h early = ⊎_elim
    (λ (less : k < m). follows_early (slice_index_or rs k d) (slice_index_or rs m d) low column (full_at rs m d b h) (follow_at rs k m d b less h) early)
    (λ (most : m ≤ k). let same : m ≡ k = omega (arith, le, most) in subst (λ (n : ℕ). EndsBefore low column (slice_index_or rs n d)) same early)
    (cases_lt k m)

-- rectangles that lack a point may be left out
none_more : (b c : Bool) → b ≡ false → c ≡ false → (b || c) ≡ false
none_more b c e f = rw (e, f) refl

take_same : (rs : List Rect) (i j : ℕ) (d : Rect) (x y : ℤ) → i ≤ j → j ≤ length rs → ((k : ℕ) → i ≤ k → k < j → covers (slice_index_or rs k d) x y ≡ false) → has (take j rs) x y ≡ has (take i rs) x y
take_same rs zero zero d x y le h lack = refl
take_same rs (suc i) zero d x y le h lack = absurd (omega (arith, le))
take_same [] i (suc j) d x y le h lack = absurd (omega (arith, h))
take_same (r ∷ rs) zero (suc j) d x y le h lack =
    none_more (covers r x y) (has (take j rs) x y) (lack 0 (omega arith) (omega arith)) (take_same rs zero j d x y (omega arith) (omega (arith, h)) (λ k low high. lack (suc k) (omega arith) (omega (arith, high))))
take_same (r ∷ rs) (suc i) (suc j) d x y le h lack =
    ap (λ b. covers r x y || b) (take_same rs i j d x y (omega (arith, le)) (omega (arith, h)) (λ k low high. lack (suc k) (omega (arith, low)) (omega (arith, high))))

pub passed : (rs : List Rect) (i j : ℕ) (d q : Rect) → IsBanded rs → IsInBounds q → i ≤ j → j ≤ length rs → ((k : ℕ) → i ≤ k → k < j → AreApart (slice_index_or rs k d) q)
    → (x y : ℤ) → covers q x y ≡ true → has (take j rs) x y ≡ has (take i rs) x y
passed rs i j d q b near le h apart x y t = take_same rs i j d x y le h (λ k low high. apart_point (slice_index_or rs k d) q x y (full_at rs k d b (omega (arith, high, h))).near near (apart k low high) t)

-- one rectangle and some behind it
from_one : (i k : ℕ) → i ≤ k → (k ≡ i) ⊎ (i < k)
from_one i k le = ⊎_elim (λ (less : i < k). inr less) (λ (most : k ≤ i). inl (omega (arith, le, most))) (cases_lt i k)

-- all from one on that begins below another rectangle
pub apart_below : (rs : List Rect) (i : ℕ) (d q : Rect) → IsBanded rs → i < length rs → bottom q ≤ top (slice_index_or rs i d) → (k : ℕ) → i ≤ k → k < length rs → AreApart (slice_index_or rs k d) q
apart_below rs i d q b h under k low high = elim (from_one i k low) [
  | inl same ↦ inr (inl (subst (λ (n : ℕ). bottom q ≤ top (slice_index_or rs n d)) (sym same) under))
  | inr later ↦ inr (inl (elim (follow_at rs i k d b later high) [
    | inl above ↦ omega (arith, under, above, (full_at rs i d b h).high)
    | inr beside ↦ omega (arith, under, beside.0)
  ]))
]

-- one that ends above it, and those that end there
pub apart_above : (rs : List Rect) (i j : ℕ) (d q : Rect) (column : ℕ) → bottom (slice_index_or rs i d) ≤ top q → ((k : ℕ) → i + 1 ≤ k → k < j → EndsBefore (top q) column (slice_index_or rs k d))
    → (k : ℕ) → i ≤ k → k < j → AreApart (slice_index_or rs k d) q
apart_above rs i j d q column over early k low high = elim (from_one i k low) [
  | inl same ↦ inl (subst (λ (n : ℕ). bottom (slice_index_or rs n d) ≤ top q) (sym same) over)
  | inr later ↦ inl (elim (early k (omega (arith, later)) high) [
    | inl less ↦ omega (arith, less)
    | inr equal ↦ omega (arith, equal.0)
  ])
]

-- one that ends on its left, and those of the same band that do
pub apart_left : (rs : List Rect) (i j : ℕ) (d q : Rect) → IsBanded rs → j ≤ length rs → right (slice_index_or rs i d) ≤ left q
    → ((k : ℕ) → i + 1 ≤ k → k < j → EndsBefore (bottom (slice_index_or rs i d)) (left q) (slice_index_or rs k d)) → (k : ℕ) → i ≤ k → k < j → AreApart (slice_index_or rs k d) q
apart_left rs i j d q b h west early k low high = elim (from_one i k low) [
  | inl same ↦ inr (inr (inl (subst (λ (n : ℕ). right (slice_index_or rs n d) ≤ left q) (sym same) west)))
  | inr later ↦ inr (inr (inl (elim (early k (omega (arith, later)) high) [
    | inl less ↦ elim (follow_at rs i k d b later (omega (arith, high, h))) [
      | inl above ↦ absurd (omega (arith, less, above, (full_at rs k d b (omega (arith, high, h))).high))
      | inr beside ↦ absurd (omega (arith, less, beside.1))
    ]
    | inr equal ↦ equal.1
  ])))
]

-- one that begins on its right, and all behind it in its band
pub apart_right : (rs : List Rect) (i j : ℕ) (d q : Rect) (column : ℕ) → IsBanded rs → i < length rs → j ≤ length rs → right q ≤ left (slice_index_or rs i d)
    → ((k : ℕ) → i + 1 ≤ k → k < j → EndsBefore (bottom (slice_index_or rs i d)) column (slice_index_or rs k d)) → (k : ℕ) → i ≤ k → k < j → AreApart (slice_index_or rs k d) q
apart_right rs i j d q column b inside h east early k low high = elim (from_one i k low) [
  | inl same ↦ inr (inr (inr (subst (λ (n : ℕ). right q ≤ left (slice_index_or rs n d)) (sym same) east)))
  | inr later ↦
      let full : IsFull (slice_index_or rs k d) = full_at rs k d b (omega (arith, high, h)) in
      let one : IsFull (slice_index_or rs i d) = full_at rs i d b inside in
      inr (inr (inr (elim (follow_at rs i k d b later (omega (arith, high, h))) [
        | inl above ↦ absurd (elim (early k (omega (arith, later)) high) [
          | inl less ↦ omega (arith, less, above, full.high)
          | inr equal ↦ omega (arith, equal.0, above, full.high)
        ])
        | inr beside ↦ omega (arith, east, beside.2, one.wide)
      ])))
]
