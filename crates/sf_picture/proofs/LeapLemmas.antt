-- Tables of the painted pixels of a row.
use Rattle.std.proofs.Common.{◌≡◌, ℕ, ◌+◌, ◌*◌, ◌<◌, ◌≤◌, ◌-◌, ◌∙◌, sym, subst, inl, inr, List, arith, length, slice_index, slice_set, pos, take, get_or, ap, Bool, true, false, refl, if◌then◌else◌, nat_le, nat_lt, ◌&&◌}
use Rattle.std.proofs.lemmas.Bool.{cases_lt}
use Rattle.std.proofs.lemmas.List.{get_or-set_other, get_or-set_same, length-set}
use Rattle.std.proofs.lemmas.Bool.Decides.{nat_tests}
use Rattle.sf_base.specs.Formats.{seen_as}
use Rattle.sf_base.specs.Geometry.{covers, is_within}
use Rattle.sf_base.specs.declared.geometry.Rect.{Rect}
use Rattle.sf_picture.proofs.SpanLemmas.{colour_at-more}
use Rattle.sf_picture.specs.Pixels.{colour_at}
use Rattle.sf_picture.specs.declared.fill.Fill.{Fill}
use Rattle.sf_picture.specs.declared.picture.Picture.{Picture}
use Rattle.sf_base.specs.declared.pixel.Rgba.{Rgba}
use Rattle.sf_picture.specs.inner.Rows.{LeapsOverPainted, Marks, MarksTo, PaintsBare, ShowsMarked}

-- the pixels that a leap passes are painted
over : {old mid : List ℕ} {left at right : ℕ} (leap : ℕ) → MarksTo old mid left at right → LeapsOverPainted old → leap ≡ slice_index mid at → (i : ℕ) → at ≤ i → i < at + leap → 0 < slice_index old i
over {old} {mid} {left} {at} leap so leaps is i from to =
    let was = so.behind at (omega arith) in
    leaps.over at i from (omega (arith, was, is, to))

pub MarksTo-leap : {old mid : List ℕ} {left at right leap : ℕ} → MarksTo old mid left at right → LeapsOverPainted old → leap ≡ slice_index mid at → 0 < leap → at + leap < right → left ≤ at → at < length mid → MarksTo old (slice_set mid at (right - at)) left (at + leap) right
MarksTo-leap {old} {mid} {left} {at} {right} {leap} so leaps is some more begun room = record {
  size = length-set mid at (right - at) ∙ so.size;
  inside = λ i from to. elim (cases_lt i at) [
    | inl before ↦
        let same : slice_index (slice_set mid at (right - at)) i ≡ slice_index mid i = get_or-set_other mid at i (right - at) 0 (λ e. omega arith) in
        let was = so.inside i from before in
        omega (arith, same, was)
    | inr behind ↦ elim (cases_lt at i) [
      | inl after ↦
          let same : slice_index (slice_set mid at (right - at)) i ≡ slice_index mid i = get_or-set_other mid at i (right - at) 0 (λ e. omega arith) in
          let was = so.behind i behind in
          let painted = over leap so leaps is i behind to in
          omega (arith, same, was, painted)
      | inr here ↦
          let place : at ≡ i = omega arith in
          let there : slice_index (slice_set mid at (right - at)) at ≡ right - at = get_or-set_same mid at (right - at) 0 room in
          let some_left : 0 < right - at = omega arith in
          subst (λ (n : ℕ). 0 < slice_index (slice_set mid at (right - at)) n) place (omega (arith, there, some_left))
    ]
  ];
  before = λ i low. get_or-set_other mid at i (right - at) 0 (λ e. omega arith) ∙ so.before i low;
  behind = λ i high. get_or-set_other mid at i (right - at) 0 (λ e. omega arith) ∙ so.behind i (omega arith);
  reach = λ i j high low. elim (cases_lt i at) [
    | inl before ↦
        let same : slice_index (slice_set mid at (right - at)) i ≡ slice_index mid i = get_or-set_other mid at i (right - at) 0 (λ e. omega arith) in
        so.reach i j high (omega (arith, same, low))
    | inr behind ↦ elim (cases_lt at i) [
      | inl after ↦
          let same : slice_index (slice_set mid at (right - at)) i ≡ slice_index mid i = get_or-set_other mid at i (right - at) 0 (λ e. omega arith) in
          so.reach i j high (omega (arith, same, low))
      | inr here ↦
          let place : i ≡ at = omega arith in
          let there : slice_index (slice_set mid at (right - at)) at ≡ right - at = get_or-set_same mid at (right - at) 0 room in
          let low_here : j < at + slice_index (slice_set mid at (right - at)) at = subst (λ (n : ℕ). j < n + slice_index (slice_set mid at (right - at)) n) place low in
          absurd (omega (arith, there, low_here))
    ]
  ];
}

pub PaintsBare-leap : {leaps mid_leaps old new : List ℕ} {first left at right leap : ℕ} {colour : Rgba} → PaintsBare leaps old new first left at colour → MarksTo leaps mid_leaps left at right → LeapsOverPainted leaps → leap ≡ slice_index mid_leaps at → PaintsBare leaps old new first left (at + leap) colour
PaintsBare-leap {leaps} {mid_leaps} {old} {new} {first} {left} {at} {right} {leap} so marks leaps_over is = record {
  bare = λ i from to none. elim (cases_lt i at) [
    | inl before ↦ so.bare i from before none
    | inr behind ↦ let some = over leap marks leaps_over is i behind to in absurd (omega (arith, some, none))
  ];
  painted = λ i from to some. elim (cases_lt i at) [
    | inl before ↦ so.painted i from before some
    | inr behind ↦ so.above (first + i) (omega (arith, behind))
  ];
  below = so.below;
  above = λ n high. so.above n (omega (arith, high));
}

pub Marks-all : {old new : List ℕ} {left at right : ℕ} → MarksTo old new left at right → LeapsOverPainted old → at ≤ right → right ≤ at → Marks old new left right
Marks-all {old} {new} {left} {at} {right} so leaps within ended = record {
  size = so.size;
  inside = λ i from to. so.inside i from (omega arith);
  before = so.before;
  behind = λ i high. so.behind i (omega arith);
  leaps = record {
    over = λ i j from to. elim (cases_lt j left) [
      | inl below ↦
          let same = so.before j below in
          let was = so.before i (omega arith) in
          let some = leaps.over i j from (omega (arith, was, to)) in
          omega (arith, same, some)
      | inr beyond ↦ elim (cases_lt j right) [
        | inl inside ↦ so.inside j beyond (omega arith)
        | inr above ↦
            let same = so.behind j (omega arith) in
            let some = leaps.over i j from (so.reach i j above to) in
            omega (arith, same, some)
      ]
    ];
  };
}

in_span : (left x right : ℕ) → left ≤ x → x < right → (nat_le left x && nat_lt x right) ≡ true
in_span left x right from to = grind (arith, nat_tests, from, to)

before_span : (left x right : ℕ) → x < left → (nat_le left x && nat_lt x right) ≡ false
before_span left x right low = grind (arith, nat_tests, low)

behind_span : (left x right : ℕ) → right ≤ x → (nat_le left x && nat_lt x right) ≡ false
behind_span left x right high = grind (arith, nat_tests, high)

both : (t b : Bool) → b ≡ true → (t && b) ≡ t
both true b e = e
both false b e = refl

neither : (t b : Bool) → b ≡ false → (t && b) ≡ false
neither true b e = e
neither false b e = refl

-- what a rectangle covers of a row that it has
pub covers_row : (rect : Rect) (x y : ℕ) (t : Bool) → is_within rect.x rect.width (pos x) ≡ t → is_within rect.y rect.height (pos y) ≡ true → covers rect (pos x) (pos y) ≡ t
unfolding covers
covers_row rect x y t across down = both (is_within rect.x rect.width (pos x)) (is_within rect.y rect.height (pos y)) down ∙ across

-- and of one that it has not
pub covers_none : (rect : Rect) (x y : ℕ) → is_within rect.y rect.height (pos y) ≡ false → covers rect (pos x) (pos y) ≡ (nat_le 0 x && nat_lt x 0)
unfolding covers
covers_none rect x y out = neither (is_within rect.x rect.width (pos x)) (is_within rect.y rect.height (pos y)) out ∙ sym (behind_span 0 x 0 (omega arith))

-- one fill more, from the last one back
pub ShowsMarked-more : (picture : Picture) (at : ℕ) (d : Fill) {y left right : ℕ} {leaps marked bytes new : List ℕ} → ShowsMarked picture (at + 1) y leaps bytes → at < length picture.fills → Marks leaps marked left right → PaintsBare leaps bytes new (y * picture.width) left right (seen_as picture.format (get_or picture.fills at d).colour)
    → ((x : ℕ) → x < picture.width → covers (get_or picture.fills at d).rect (pos x) (pos y) ≡ (nat_le left x && nat_lt x right)) → ShowsMarked picture at y marked new
ShowsMarked-more picture at d {y} {left} {right} {leaps} {marked} {bytes} {new} shows room marks paints same = record {
  painted = λ x in_row some. elim (cases_lt x left) [
    | inl before ↦
        let was = marks.before x before in
        paints.below (y * picture.width + x) (omega (arith, before)) ∙ shows.painted x in_row (omega (arith, was, some))
    | inr from ↦ elim (cases_lt x right) [
      | inl inside ↦ elim (cases_lt 0 (slice_index leaps x)) [
        | inl was ↦ paints.painted x from inside was ∙ shows.painted x in_row was
        | inr none ↦
            let empty : slice_index leaps x ≡ 0 = omega (arith, none) in
            paints.bare x from inside empty ∙ sym (ap (seen_as picture.format) (told x in_row empty true (same x in_row ∙ in_span left x right from inside)))
      ]
      | inr beyond ↦
          let was = marks.behind x beyond in
          paints.above (y * picture.width + x) (omega (arith, beyond)) ∙ shows.painted x in_row (omega (arith, was, some))
    ]
  ];
  bare = λ x in_row none. elim (cases_lt x left) [
    | inl before ↦
        let was = marks.before x before in
        told x in_row (omega (arith, was, none)) false (same x in_row ∙ before_span left x right before)
    | inr from ↦ elim (cases_lt x right) [
      | inl inside ↦ let some = marks.inside x from inside in absurd (omega (arith, some, none))
      | inr beyond ↦
          let was = marks.behind x beyond in
          told x in_row (omega (arith, was, none)) false (same x in_row ∙ behind_span left x right beyond)
    ]
  ];
}
  where
    told : (x : ℕ) → x < picture.width → slice_index leaps x ≡ 0 → (b : Bool) → covers (get_or picture.fills at d).rect (pos x) (pos y) ≡ b → colour_at picture.fills x y ≡ (if b then (get_or picture.fills at d).colour else colour_at (take at picture.fills) x y)
    told x in_row none b is = shows.bare x in_row none ∙ (colour_at-more picture.fills at d x y room ∙ ap (λ (t : Bool). if t then (get_or picture.fills at d).colour else colour_at (take at picture.fills) x y) is)
