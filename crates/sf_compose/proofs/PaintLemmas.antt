-- Painting over parts of a frame, one part after another, and one layer after another.
use Rattle.std.proofs.Common.{◌≡◌, ℕ, suc, ◌+◌, ◌-◌, ◌*◌, ◌<◌, ◌≤◌, Bool, true, false, ◌||◌, ◌&&◌, if◌then◌else◌, List, inl, inr, refl, ap, ◌∙◌, sym, subst, arith, nat_le, nat_lt}
use Rattle.std.specs.Prelude.{max}
use Rattle.std.proofs.lemmas.Bool.{cases_lt}
use Rattle.std.proofs.lemmas.Bool.Decides.{nat_tests}
use Rattle.std.proofs.Math.Nat.{mul-le-mul_right}
use Rattle.sf_base.specs.declared.pixel.Rgba.{Rgba}
use Rattle.sf_base.specs.Blend.{blended, product}
use Rattle.sf_base.specs.Paint.{painted}
use Rattle.sf_base.specs.Bytes.{pixel_in}
use Rattle.sf_damage.proofs.VisibleLemmas.{nothing-left}
use Rattle.sf_damage.specs.sf_view.Image.{opaque_black}
use Rattle.sf_compose.specs.Frames.{is_in_box}
use Rattle.sf_compose.specs.inner.Painting.{Paints, PaintsSpan}

-- no point
pub Paints-none : (w base : ℕ) (p : ℕ → ℕ → Bool) (f : ℕ → ℕ → Rgba → Rgba) (old : List ℕ) → ((x y : ℕ) → p x y ≡ false) → Paints w base p f old old
Paints-none w base p f old none = record { size = refl; pixels = λ x y wide low. rw (none x y) refl }

-- two tests and two ways to paint that agree
pub Paints-same : (w base : ℕ) (p q : ℕ → ℕ → Bool) (f g : ℕ → ℕ → Rgba → Rgba) (old new : List ℕ) → Paints w base p f old new → ((x y : ℕ) → q x y ≡ p x y) → ((x y : ℕ) (under : Rgba) → p x y ≡ true → f x y under ≡ g x y under) → Paints w base q g old new
Paints-same w base p q f g old new a tests paints = record {
  size = a.size;
  pixels = λ x y wide low. by_test x y wide low (p x y) refl;
}
  where
    by_test : (x y : ℕ) → x < w → base ≤ y → (t : Bool) → p x y ≡ t → pixel_in new ((y - base) * w + x) ≡ (if q x y then g x y (pixel_in old ((y - base) * w + x)) else pixel_in old ((y - base) * w + x))
    by_test x y wide low true t = rw (tests x y, t) ((rw t at (a.pixels x y wide low)) ∙ paints x y (pixel_in old ((y - base) * w + x)) t)
    by_test x y wide low false t = rw (tests x y, t) (rw t at (a.pixels x y wide low))

-- the points that pass one test, and then others
pub Paints-then : (w base : ℕ) (p q r : ℕ → ℕ → Bool) (f : ℕ → ℕ → Rgba → Rgba) (old mid new : List ℕ) → Paints w base p f old mid → Paints w base q f mid new → ((x y : ℕ) → r x y ≡ (p x y || q x y)) → ((x y : ℕ) → p x y ≡ true → q x y ≡ false) → Paints w base r f old new
Paints-then w base p q r f old mid new a b either apart = record {
  size = b.size ∙ a.size;
  pixels = λ x y wide low. by_test x y wide low (p x y) (q x y) refl refl;
}
  where
    by_test : (x y : ℕ) → x < w → base ≤ y → (s t : Bool) → p x y ≡ s → q x y ≡ t → pixel_in new ((y - base) * w + x) ≡ (if r x y then f x y (pixel_in old ((y - base) * w + x)) else pixel_in old ((y - base) * w + x))
    by_test x y wide low true true s t = let no : true ≡ false = sym t ∙ apart x y s in cc
    by_test x y wide low true false s t = rw (either x y, s) ((rw t at (b.pixels x y wide low)) ∙ (rw s at (a.pixels x y wide low)))
    by_test x y wide low false true s t = rw (either x y, s, t) ((rw t at (b.pixels x y wide low)) ∙ ap (f x y) (rw s at (a.pixels x y wide low)))
    by_test x y wide low false false s t = rw (either x y, s, t) ((rw t at (b.pixels x y wide low)) ∙ (rw s at (a.pixels x y wide low)))

-- the same points once more
pub Paints-over : (w base : ℕ) (p : ℕ → ℕ → Bool) (f g : ℕ → ℕ → Rgba → Rgba) (old mid new : List ℕ) → Paints w base p f old mid → Paints w base p g mid new → Paints w base p (λ x y under. g x y (f x y under)) old new
Paints-over w base p f g old mid new a b = record {
  size = b.size ∙ a.size;
  pixels = λ x y wide low. by_test x y wide low (p x y) refl;
}
  where
    by_test : (x y : ℕ) → x < w → base ≤ y → (s : Bool) → p x y ≡ s → pixel_in new ((y - base) * w + x) ≡ (if p x y then g x y (f x y (pixel_in old ((y - base) * w + x))) else pixel_in old ((y - base) * w + x))
    by_test x y wide low true s = rw s ((rw s at (b.pixels x y wide low)) ∙ ap (g x y) (rw s at (a.pixels x y wide low)))
    by_test x y wide low false s = rw s ((rw s at (b.pixels x y wide low)) ∙ (rw s at (a.pixels x y wide low)))

-- the points of an area that pass a further test
pub Paints-clipped : (w base : ℕ) (p q clip : ℕ → ℕ → Bool) (f : ℕ → ℕ → Rgba → Rgba) (old new : List ℕ) → Paints w base p f old new → ((x y : ℕ) → p x y ≡ (q x y && clip x y)) → Paints w base q (λ x y under. if clip x y then f x y under else under) old new
Paints-clipped w base p q clip f old new a both = record {
  size = a.size;
  pixels = λ x y wide low. by_test x y wide low (q x y) (clip x y) refl refl;
}
  where
    by_test : (x y : ℕ) → x < w → base ≤ y → (s t : Bool) → q x y ≡ s → clip x y ≡ t → pixel_in new ((y - base) * w + x) ≡ (if q x y then (if clip x y then f x y (pixel_in old ((y - base) * w + x)) else pixel_in old ((y - base) * w + x)) else pixel_in old ((y - base) * w + x))
    by_test x y wide low true true s t = rw (s, t) (rw (both x y, s, t) at (a.pixels x y wide low))
    by_test x y wide low true false s t = rw (s, t) (rw (both x y, s, t) at (a.pixels x y wide low))
    by_test x y wide low false t s u = rw s (rw (both x y, s) at (a.pixels x y wide low))

in_row : (left right y a b : ℕ) → is_in_box left right y (y + 1) a b ≡ true → (left ≤ a) × (a < right) × (b ≡ y)
in_row left right y a b t = (grind (arith, nat_tests), grind (arith, nat_tests), grind (arith, nat_tests))

its_row : (left right y a b : ℕ) → left ≤ a → a < right → b ≡ y → is_in_box left right y (y + 1) a b ≡ true
its_row left right y a b p q r = grind (arith, nat_tests)

row_end : (w x y z : ℕ) → x ≤ w → y < z → y * w + x ≤ z * w
row_end w x y z in_row before =
    let h : suc y * w ≤ z * w = mul-le-mul_right w before in
    let e : suc y * w ≡ y * w + w = omega arith in
    omega (arith, h, e)

row_painted : (w base left right y : ℕ) (f : ℕ → ℕ → Rgba → Rgba) (g : ℕ → Rgba → Rgba) (old new : List ℕ) → base ≤ y → left < right → right ≤ w → PaintsSpan old new ((y - base) * w + left) ((y - base) * w + right) g → ((x : ℕ) (under : Rgba) → left ≤ x → x < right → g ((y - base) * w + x) under ≡ f x y under) → Paints w base (is_in_box left right y (y + 1)) f old new
row_painted w base left right y f g old new first ordered narrow span same = record { size = span.size; pixels = λ a b wide low. by_test a b wide low (is_in_box left right y (y + 1) a b) refl }
  where
    inside_row : (a : ℕ) → left ≤ a → a < right → pixel_in new ((y - base) * w + a) ≡ f a y (pixel_in old ((y - base) * w + a))
    inside_row a from to = span.inside ((y - base) * w + a) (omega arith) (omega arith) ∙ same a (pixel_in old ((y - base) * w + a)) from to

    by_test : (a b : ℕ) → a < w → base ≤ b → (t : Bool) → is_in_box left right y (y + 1) a b ≡ t → pixel_in new ((b - base) * w + a) ≡ (if is_in_box left right y (y + 1) a b then f a b (pixel_in old ((b - base) * w + a)) else pixel_in old ((b - base) * w + a))
    by_test a b wide low true t =
        let e : (left ≤ a) × (a < right) × (b ≡ y) = in_row left right y a b t in
        rw (t, e.2) (inside_row a e.0 e.1)
    by_test a b wide low false t = rw t (elim (cases_lt b y) [
      | inl higher ↦
          let before : b - base < y - base = omega arith in
          let strict : suc (b - base) * w ≤ (y - base) * w = mul-le-mul_right w before in
          let e : suc (b - base) * w ≡ (b - base) * w + w = omega arith in
          span.below ((b - base) * w + a) (omega (arith, strict, e))
      | inr from ↦ elim (cases_lt y b) [
        | inl lower ↦
            let end : (y - base) * w + right ≤ (b - base) * w = row_end w right (y - base) (b - base) narrow (omega arith) in
            span.above ((b - base) * w + a) (omega (arith, end))
        | inr to ↦
            let here : b ≡ y = omega arith in
            let there : (b - base) * w ≡ (y - base) * w = ap (λ n. (n - base) * w) here in
            elim (cases_lt a left) [
              | inl before ↦ span.below ((b - base) * w + a) (omega (arith, there))
              | inr began ↦ elim (cases_lt a right) [
                | inl within ↦
                    let yes : is_in_box left right y (y + 1) a b ≡ true = its_row left right y a b (omega arith) within here in
                    let no : true ≡ false = sym yes ∙ t in
                    cc
                | inr beyond ↦ span.above ((b - base) * w + a) (omega (arith, there))
              ]
            ]
      ]
    ])

-- a row of an area, which starts at a pixel
pub Paints-row : (w base left right y start : ℕ) (f : ℕ → ℕ → Rgba → Rgba) (g : ℕ → Rgba → Rgba) (old new : List ℕ) → start ≡ (y - base) * w → base ≤ y → left < right → right ≤ w → PaintsSpan old new (start + left) (start + right) g → ((x : ℕ) (under : Rgba) → left ≤ x → x < right → g (start + x) under ≡ f x y under) → Paints w base (is_in_box left right y (y + 1)) f old new
Paints-row w base left right y start f g old new is first ordered narrow span same = row_painted w base left right y f g old new first ordered narrow (rw is at span) (λ x under from to. rw is at (same x under from to))

-- opaque black leaves nothing of what it is painted over
pub painted-black : (under : Rgba) → painted under opaque_black 255 ≡ opaque_black
unfolding painted blended product
painted-black under = rw (nothing-left under.r, nothing-left under.g, nothing-left under.b, nothing-left under.a) refl

pub rows_apart : (left right top y a b : ℕ) → is_in_box left right top y a b ≡ true → is_in_box left right y (y + 1) a b ≡ false
rows_apart left right top y a b t = grind (arith, nat_tests)

pub box_without_sides : (left right top bottom a b : ℕ) → right ≤ left → is_in_box left right top bottom a b ≡ false
box_without_sides left right top bottom a b none = grind (arith, nat_tests)

pub box_without_edges : (left right top bottom a b : ℕ) → bottom ≤ top → is_in_box left right top bottom a b ≡ false
box_without_edges left right top bottom a b none = grind (arith, nat_tests)

swapped : (a b c d : Bool) → ((a && b) && (c && d)) ≡ ((a && c) && (b && d))
swapped true true true d = refl
swapped true true false d = refl
swapped true false true d = refl
swapped true false false d = refl
swapped false b c d = refl

beyond : (start end at : ℕ) → end ≤ at → (nat_le start at && nat_lt at end) ≡ false
beyond start end at h = grind (arith, nat_tests)

-- one side of a cut
cut_side : (from to first end at : ℕ) (within : Bool) → end ≤ to → (at < to → within ≡ (nat_le first at && nat_lt at end)) → (nat_le (max first from) at && nat_lt at end) ≡ ((nat_le from at && nat_lt at to) && within)
cut_side from to first end at within limited same = elim (cases_lt at to) [
  | inl low ↦ let e = same low in rw e (grind (arith, nat_tests))
  | inr high ↦ rw (beyond (max first from) end at (omega arith), beyond from to at high) refl
]

-- an area cut to what is within two spans
pub cut_area : (left right top bottom l r t b x y : ℕ) (across down : Bool) → r ≤ right → b ≤ bottom → (x < right → across ≡ (nat_le l x && nat_lt x r)) → (y < bottom → down ≡ (nat_le t y && nat_lt y b)) → is_in_box (max l left) r (max t top) b x y ≡ (is_in_box left right top bottom x y && (across && down))
cut_area left right top bottom l r t b x y across down wide high p q = rw (cut_side left right l r x across wide p, cut_side top bottom t b y down high q) (swapped (nat_le left x && nat_lt x right) across (nat_le top y && nat_lt y bottom) down)

-- a point between the sides and between the edges
pub its_point : (left right top bottom a b : ℕ) → left ≤ a → a < right → top ≤ b → b < bottom → is_in_box left right top bottom a b ≡ true
its_point left right top bottom a b p q r s = grind (arith, nat_tests)

-- a loop over the rows of an area that ended
pub Paints-ended : (w base left right top y bottom : ℕ) (f : ℕ → ℕ → Rgba → Rgba) (old new : List ℕ) → Paints w base (is_in_box left right top y) f old new → y ≡ bottom → Paints w base (is_in_box left right top bottom) f old new
Paints-ended w base left right top y bottom f old new a ended = subst (λ (n : ℕ). Paints w base (is_in_box left right top n) f old new) ended a

-- rows of a frame that follow one another
pub Paints-rows : (w base left right top bottom start end : ℕ) (f : ℕ → ℕ → Rgba → Rgba) (g : ℕ → Rgba → Rgba) (old new : List ℕ) → left ≡ 0 → right ≡ w → start ≡ (top - base) * w → end ≡ (bottom - base) * w → base ≤ top → top ≤ bottom → PaintsSpan old new start end g → ((x y : ℕ) → x < w → top ≤ y → y < bottom → start ≤ (y - base) * w + x → (y - base) * w + x < end → g ((y - base) * w + x) (pixel_in old ((y - base) * w + x)) ≡ f x y (pixel_in old ((y - base) * w + x))) → Paints w base (is_in_box left right top bottom) f old new
Paints-rows w base left right top bottom start end f g old new is_left is_right is_start is_end first ordered span same = rw (is_left, is_right) (record {
  size = span.size;
  pixels = λ x y wide low. elim (cases_lt y top) [
    | inl higher ↦
        let before : (y - base) * w + x < start = rw is_start (row_before w x (y - base) (top - base) wide (omega arith)) in
        let no : is_in_box 0 w top bottom x y ≡ false = grind (arith, nat_tests) in
        rw no (span.below ((y - base) * w + x) before)
    | inr from ↦ elim (cases_lt y bottom) [
      | inl within ↦
          let after : start ≤ (y - base) * w + x = rw is_start (rows_after w x (top - base) (y - base) (omega arith)) in
          let before : (y - base) * w + x < end = rw is_end (row_before w x (y - base) (bottom - base) wide (omega arith)) in
          let yes : is_in_box 0 w top bottom x y ≡ true = its_point 0 w top bottom x y (omega arith) wide from within in
          rw yes (span.inside ((y - base) * w + x) after before ∙ same x y wide from within after before)
      | inr lower ↦
          let after : end ≤ (y - base) * w + x = rw is_end (rows_after w x (bottom - base) (y - base) (omega arith)) in
          let no : is_in_box 0 w top bottom x y ≡ false = grind (arith, nat_tests) in
          rw no (span.above ((y - base) * w + x) after)
    ]
  ];
})
  where
    row_before : (w x y z : ℕ) → x < w → y < z → y * w + x < z * w
    row_before w x y z in_row before =
        let h : suc y * w ≤ z * w = mul-le-mul_right w before in
        let e : suc y * w ≡ y * w + w = omega arith in
        omega (arith, h, e)

    rows_after : (w x y z : ℕ) → y ≤ z → y * w ≤ z * w + x
    rows_after w x y z after =
        let h : y * w ≤ z * w = mul-le-mul_right w after in
        omega (arith, h)

-- how far a pixel of rows is from the first of them
pub rows_back : (w base top x y : ℕ) → base ≤ top → top ≤ y → ((y - base) * w + x) - (top - base) * w ≡ (y - top) * w + x
rows_back w base top x y first after =
    let both : y - base ≡ (y - top) + (top - base) = omega arith in
    let rows : (y - base) * w ≡ ((y - top) + (top - base)) * w = ap (λ (n : ℕ). n * w) both in
    let apart : ((y - top) + (top - base)) * w ≡ (y - top) * w + (top - base) * w = omega arith in
    omega (arith, rows, apart)
