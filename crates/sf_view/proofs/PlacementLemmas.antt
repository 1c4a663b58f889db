-- Bounds of layers, layer by layer.
use Rattle.std.proofs.Common.{◌≡◌, ℕ, suc, ◌<◌, ◌≤◌, Bool, true, false, ◌&&◌, List, length, get_or, Option, Some, None, refl, ap, ◌∙◌, sym, arith, ℤ, pos, ◌+ℤ◌, ◌≢◌, replicate, length-set}
use Rattle.std.proofs.lemmas.Int.{ints}
use Rattle.sf_tree.specs.sf_layer.declared.layer.Layer.{Layer}
use Rattle.std.proofs.lemmas.Bool.{eqb-true, eq-eqb, true_from_ne_false}
use Rattle.std.specs.Prelude.{eqb, int_le, int_lt, IfSome}
use Rattle.sf_base.specs.Geometry.{LiesWithin}
use Rattle.sf_tree.specs.sf_layer.Ranges.{IsCoordinate}
use Rattle.sf_tree.specs.sf_layer.declared.kind.Kind.{Kind}
use Rattle.sf_tree.specs.sf_layer.declared.kind.Kind.TheVariants as kind
use Rattle.sf_tree.specs.sf_layer.declared.shown.Shown.{Shown}
use Rattle.sf_tree.specs.Kept.{IsLayerInRange}
use Rattle.sf_view.specs.declared.content.Content.{Content}
use Rattle.sf_view.specs.declared.content.Content.TheVariants as content
use Rattle.sf_view.specs.Contents.{content_of}
use Rattle.sf_view.proofs.IntervalLemmas.{both_true}
use Rattle.sf_view.specs.Ancestry.{ancestry}
use Rattle.sf_view.specs.declared.placement.Placement.{Placement}
use Rattle.sf_tree.proofs.ShowLemmas.{inside_from_slice_get}
use Rattle.std.specs.List.{slice_get, slice_set}
use Rattle.std.proofs.lemmas.List.{get_or-set_same, get_or-set_other, get_or-replicate, length-replicate}
use Rattle.sf_view.specs.Placements.{AreFound, HasSmallCrop, is_in_display, IsInReach, IsPlaced}

-- a point in two intervals that were cut to two others
pub regroup : (a d w h disp crops : Bool) → (a && d) ≡ (disp && crops) → ((a && w) && (d && h)) ≡ (disp && (crops && (w && h)))
regroup true true w h disp crops e = rejoin disp crops e
  where
    rejoin : (p q : Bool) → true ≡ (p && q) → (w && h) ≡ (p && (q && (w && h)))
    rejoin true true e = refl
    rejoin true false e = cc
    rejoin false q e = cc
regroup true false w h disp crops e = none w disp crops e
  where
    none : (w p q : Bool) → false ≡ (p && q) → (w && false) ≡ (p && (q && (w && h)))
    none true true true e = cc
    none true true false e = refl
    none true false q e = refl
    none false true true e = refl
    none false true false e = refl
    none false false q e = refl
regroup false d w h disp crops e = none disp crops e
  where
    none : (p q : Bool) → false ≡ (p && q) → false ≡ (p && (q && (w && h)))
    none true true e = cc
    none true false e = refl
    none false q e = refl

pub and_true : (a : Bool) → (a && true) ≡ a
and_true true = refl
and_true false = refl

-- a position leads at most so far
pub IsInReach-step : (n : ℕ) (at by : ℤ) → IsInReach n at → IsCoordinate by → IsInReach (suc n) (at +ℤ by)
IsInReach-step n at by a b = record { low = omega (arith, ints, a.low, b.low); high = omega (arith, ints, a.high, b.high) }

pub IsInReach-le : (m n : ℕ) (at : ℤ) → IsInReach m at → m ≤ n → IsInReach n at
IsInReach-le m n at a h = record { low = omega (arith, ints, a.low); high = omega (arith, ints, a.high) }

-- nothing was found yet
pub AreFound-none : (tree : List Layer) (width height n : ℕ) → n ≡ length tree → AreFound tree width height (replicate n None)
AreFound-none tree width height n e = record {
  size = length-replicate n None ∙ e;
  right = λ index layer placement at f.
      let inside : index < length tree = inside_from_slice_get tree index layer at in
      let none : None ≡ Some placement = sym (get_or-replicate n index None None (omega arith)) ∙ f in cc;
}

-- one more was found
pub AreFound-set : (tree : List Layer) (width height : ℕ) (found : List (Option Placement)) (index : ℕ) (layer : Layer) (placement : Placement) → AreFound tree width height found → slice_get tree index ≡ Some layer → IsPlaced width height (ancestry tree layer) placement → AreFound tree width height (slice_set found index (Some placement))
AreFound-set tree width height found index layer placement a at placed = record {
  size = length-set found index (Some placement) ∙ a.size;
  right = λ k other p there f. by_index k other p there f (eqb k index) refl;
}
  where
    inside : index < length found
    inside = rw a.size (inside_from_slice_get tree index layer at)

    by_index : (k : ℕ) (other : Layer) (p : Placement) → slice_get tree k ≡ Some other → get_or (slice_set found index (Some placement)) k None ≡ Some p → (b : Bool) → eqb k index ≡ b → IsPlaced width height (ancestry tree other) p
    by_index k other p there f true e =
        let same : k ≡ index = eqb-true k index e in
        let layers : Some other ≡ Some layer = sym there ∙ (ap (slice_get tree) same ∙ at) in
        let one : other ≡ layer = cc in
        let set : Some p ≡ Some placement = sym f ∙ (ap (λ (n : ℕ). get_or (slice_set found index (Some placement)) n None) same ∙ get_or-set_same found index (Some placement) None inside) in
        let two : p ≡ placement = cc in
        rw (one, two) placed
    by_index k other p there f false e =
        let apart : k ≢ index = λ q. let clash : true ≡ false = sym (eq-eqb k index q) ∙ e in cc in
        a.right k other p there (sym (get_or-set_other found index k (Some placement) None apart) ∙ f)

-- a point of the display
pub is_in_display-inside : (width height x y : ℕ) → x < width → y < height → is_in_display width height (pos x) (pos y) ≡ true
is_in_display-inside width height x y p q =
    both_true _ _
    (both_true _ _ (true_from_ne_false (int_le (pos 0) (pos x)) (λ f. omega (arith, ints, f))) (true_from_ne_false (int_lt (pos x) (pos 0 +ℤ pos width)) (λ f. omega (arith, ints, f))))
    (both_true _ _ (true_from_ne_false (int_le (pos 0) (pos y)) (λ f. omega (arith, ints, f))) (true_from_ne_false (int_lt (pos y) (pos 0 +ℤ pos height)) (λ f. omega (arith, ints, f))))

-- the content of a layer whose crops are in their ranges
pub small_crop : (layer : Layer) (shows : Content) → Some shows ≡ content_of layer → IsLayerInRange layer → HasSmallCrop shows
small_crop layer shows e r = by_kind layer.kind layer.shown refl refl r.shown
  where
    by_kind : (k : Kind) (s : Option Shown) → layer.kind ≡ k → layer.shown ≡ s → IfSome s (λ shown. LiesWithin shown.crop 512 512) → HasSmallCrop shows
    by_kind kind.Container s p q inside = let none : Some shows ≡ None = e ∙ (rw p refl) in cc
    by_kind kind.Colour s p q inside =
        let some : Some shows ≡ Some (content.Colour layer.colour) = e ∙ (rw p refl) in
        let same : shows ≡ content.Colour layer.colour = cc in
        rw same tt
    by_kind kind.Buffer None p q inside = let none : Some shows ≡ None = e ∙ (rw (p, q) refl) in cc
    by_kind kind.Buffer (Some shown) p q inside =
        let some : Some shows ≡ Some (content.Buffer shown) = e ∙ (rw (p, q) refl) in
        let same : shows ≡ content.Buffer shown = cc in
        rw same (omega (arith, ints, inside.across.low, inside.across.high), omega (arith, ints, inside.down.low, inside.down.high))
