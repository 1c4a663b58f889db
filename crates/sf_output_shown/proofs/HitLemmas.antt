-- What is in front at a point, in a view and in the layers that it is of.
use Rattle.std.proofs.Common.{◌≡◌, ℕ, ◌<◌, Bool, true, false, List, [], ◌∷◌, Option, Some, None, refl, ap, ◌∙◌, sym, arith, ℤ, pos, ◌+ℤ◌, reverse}
use Rattle.std.specs.List.{All, AllZip}
use Rattle.std.specs.Prelude.{find, int_le, int_lt, ◌≤ℤ◌}
use Rattle.std.specs.Option.{option_map, option_or}
use Rattle.std.proofs.lemmas.Bool.{true_from_ne_false}
use Rattle.std.proofs.lemmas.Grind.{reverse_onto}
use Rattle.std.proofs.lemmas.Int.{ints}
use Rattle.std.proofs.lemmas.List.Elements.{All-head, All-tail, All-weaker}
use Rattle.std.proofs.lemmas.List.Folds.{find-append}
use Rattle.sf_base.specs.Geometry.{covers, is_within}
use Rattle.sf_base.specs.declared.ids.LayerId.{LayerId}
use Rattle.sf_view.specs.sf_layer.declared.layer.Layer.{Layer}
use Rattle.sf_view.specs.Image.{drawn_in, is_in_layer}
use Rattle.sf_view.specs.Placements.{is_in_display}
use Rattle.sf_view.specs.Views.{Draws, IsClip, IsView, ViewOf, ViewsInOrder, is_in_clip}
use Rattle.sf_view.specs.declared.drawn.Drawn.{Drawn}
use Rattle.sf_view.proofs.IntervalLemmas.{and_left, and_right, both_true}
use Rattle.sf_output_shown.specs.Hits.{front, hit_in}

-- the last of a list and one more that passes
reverse-one : {X : Type 0} (p : X → Bool) (x : X) (xs : List X) → find p (reverse (x ∷ xs)) ≡ option_or (find p (reverse xs)) (find p (x ∷ []))
reverse-one p x xs = ap (find p) (reverse_onto xs x []) ∙ find-append p (reverse xs) (x ∷ [])

or_map : {X Y Z : Type 0} (f : X → Z) (g : Y → Z) (a c : Option X) (b d : Option Y) → option_map f a ≡ option_map g b → option_map f c ≡ option_map g d → option_map f (option_or a c) ≡ option_map g (option_or b d)
or_map f g None c None d e h = h
or_map f g None c (Some y) d e h = cc
or_map f g (Some x) c None d e h = cc
or_map f g (Some x) c (Some y) d e h = e

number_of : Layer → LayerId
number_of layer = layer.number

layer_in : Drawn → LayerId
layer_in drawn = drawn.layer

front-same : (tree : List Layer) (width height x y : ℕ) → x < width → y < height → (layers : List Layer) (drawn : List Drawn) → AllZip (Draws tree width height) layers drawn
    → option_map (λ (d : Drawn). d.layer) (find (λ (d : Drawn). is_in_clip d (pos x) (pos y)) (reverse drawn)) ≡ option_map (λ (l : Layer). l.number) (find (λ (l : Layer). is_in_layer tree l (pos x) (pos y)) (reverse layers))
front-same tree width height x y wide high [] [] all = refl
front-same tree width height x y wide high [] (d ∷ ds) all = absurd all
front-same tree width height x y wide high (l ∷ ls) [] all = absurd all
front-same tree width height x y wide high (l ∷ ls) (d ∷ ds) all =
    ap (option_map (λ (d : Drawn). d.layer)) (reverse-one (λ (d : Drawn). is_in_clip d (pos x) (pos y)) d ds)
    ∙ (or_map (λ (d : Drawn). d.layer) (λ (l : Layer). l.number) _ _ _ _ (front-same tree width height x y wide high ls ds all.1) (one (is_in_clip d (pos x) (pos y)) refl)
    ∙ sym (ap (option_map (λ (l : Layer). l.number)) (reverse-one (λ (l : Layer). is_in_layer tree l (pos x) (pos y)) l ls)))
  where
    one : (b : Bool) → is_in_clip d (pos x) (pos y) ≡ b → option_map (λ (d : Drawn). d.layer) (find (λ (d : Drawn). is_in_clip d (pos x) (pos y)) (d ∷ [])) ≡ option_map (λ (l : Layer). l.number) (find (λ (l : Layer). is_in_layer tree l (pos x) (pos y)) (l ∷ []))
    one true t =
        let layer_is : is_in_layer tree l (pos x) (pos y) ≡ true = sym (all.0.clip x y wide high) ∙ t in
        rw (t, layer_is) (ap Some all.0.number)
    one false t =
        let layer_is : is_in_layer tree l (pos x) (pos y) ≡ false = sym (all.0.clip x y wide high) ∙ t in
        rw (t, layer_is) refl

pub in_front : (tree : List Layer) (order : List LayerId) (width height : ℕ) (view : ViewOf) → ViewsInOrder tree order width height view → (x y : ℕ) → x < width → y < height → hit_in view (pos x) (pos y) ≡ front tree order (pos x) (pos y)
in_front tree order width height view v x y wide high = front-same tree width height x y wide high (drawn_in tree order) view.drawn v.drawn

-- a clip lies on the display
within : (start : ℤ) (extent size : ℕ) (at : ℤ) → pos 0 ≤ℤ start → (start +ℤ pos extent) ≤ℤ pos size → is_within start extent at ≡ true → is_within (pos 0) size at ≡ true
within start extent size at low high h =
    let p : int_le start at ≡ true = and_left (int_le start at) (int_lt at (start +ℤ pos extent)) h in
    let q : int_lt at (start +ℤ pos extent) ≡ true = and_right (int_le start at) (int_lt at (start +ℤ pos extent)) h in
    both_true _ _ (true_from_ne_false (int_le (pos 0) at) (λ f. omega (arith, ints, low, p, f))) (true_from_ne_false (int_lt at (pos 0 +ℤ pos size)) (λ f. omega (arith, ints, high, q, f)))

clip_inside : (width height : ℕ) (drawn : Drawn) (x y : ℤ) → IsClip width height drawn → is_in_clip drawn x y ≡ true → is_in_display width height x y ≡ true
unfolding covers
clip_inside width height drawn x y c h =
    both_true _ _ (within drawn.clip.x drawn.clip.width width x c.left c.right (and_left _ _ h)) (within drawn.clip.y drawn.clip.height height y c.top c.bottom (and_right _ _ h))

none_passes : (p : Drawn → Bool) (ds : List Drawn) → All (λ d. p d ≡ false) ds → find p (reverse ds) ≡ None
none_passes p [] all = refl
none_passes p (d ∷ ds) all =
    let first : p d ≡ false = All-head (λ d. p d ≡ false) d ds all in
    let rest : find p (reverse ds) ≡ None = none_passes p ds (All-tail (λ d. p d ≡ false) d ds all) in
    reverse-one p d ds ∙ (rw (rest, first) refl)

clip_off : (width height : ℕ) (drawn : Drawn) (x y : ℤ) → is_in_display width height x y ≡ false → IsClip width height drawn → is_in_clip drawn x y ≡ false
clip_off width height drawn x y off c = by_test (is_in_clip drawn x y) refl
  where
    by_test : (b : Bool) → is_in_clip drawn x y ≡ b → is_in_clip drawn x y ≡ false
    by_test false t = t
    by_test true t = let clash : true ≡ false = sym (clip_inside width height drawn x y c t) ∙ off in cc

pub off_display : (view : ViewOf) (x y : ℤ) → IsView view → is_in_display view.width view.height x y ≡ false → hit_in view x y ≡ None
off_display view x y v off =
    ap (option_map (λ (d : Drawn). d.layer))
    (none_passes (λ (d : Drawn). is_in_clip d x y) view.drawn
    (All-weaker (IsClip view.width view.height) (λ (d : Drawn). is_in_clip d x y ≡ false) (λ (d : Drawn). clip_off view.width view.height d x y off) view.drawn v.clips))
