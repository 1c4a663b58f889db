-- Views of what is due, one more at a time; and what is in front at a point.
use Rattle.std.proofs.Common.{◌≡◌, ℕ, ◌+◌, ◌<◌, Bool, true, false, List, [], ◌∷◌, ◌++◌, length, get_or, take, map, Some, None, refl, ap, ◌∙◌, sym, subst, arith, append-nil, inl, inr, ℤ, pos, negsuc, ◌+ℤ◌}
use Rattle.std.specs.List.{AllZip, flat_map}
use Rattle.std.specs.Prelude.{if◌then◌else◌, int_le, int_lt}
use Rattle.std.proofs.lemmas.Bool.{cases_Bool}
use Rattle.std.proofs.lemmas.Option.{none-some, same_Some}
use Rattle.std.proofs.lemmas.Grind.{flat_map-append}
use Rattle.std.proofs.lemmas.Int.{ints}
use Rattle.std.proofs.lemmas.List.{map-append, take_more}
use Rattle.std.proofs.lemmas.Slice.Zip.{all_zipped_more}
use Rattle.sf_base.specs.Geometry.{is_within}
use Rattle.sf_base.specs.declared.ids.LayerId.{LayerId}
use Rattle.sf_display.specs.sf_layer.declared.layer.Layer.{Layer}
use Rattle.sf_display.specs.sf_view.Placements.{is_in_display}
use Rattle.sf_display.specs.sf_view.Views.{IsView, ViewOf, ViewsInOrder}
use Rattle.sf_display.proofs.sf_view_lemmas.IntervalLemmas.{and_left, and_right}
use Rattle.sf_display.specs.sf_output_shown.Hits.{front, hit_in}
use Rattle.sf_display.proofs.sf_output_shown_lemmas.HitLemmas.{in_front, off_display}
use Rattle.sf_output.specs.declared.image.ImageId.TheVariants as id
use Rattle.sf_output.specs.declared.output.Output.TheVariants as out
use Rattle.sf_output.specs.Outputs.{IsOutput}
use Rattle.sf_output.specs.declared.output.Output.{Output}
use Rattle.sf_output_plan.specs.Due.{AreShown, SameOrders, ShowsDue, capture_due, captured, display_due, hit_due, id_of, others_due}
use Rattle.sf_output_plan.specs.declared.plan.CapturePlan.{CapturePlan}
use Rattle.sf_output_plan.specs.declared.plan.DisplayPlan.{DisplayPlan}
use Rattle.sf_output_plan.specs.declared.plan.Plan.{Plan}
use Rattle.sf_display.specs.sf_output_shown.Copies.{written}
use Rattle.sf_display.specs.sf_output_shown.Cuts.{cut, cut_of}
use Rattle.sf_display.specs.sf_tree.Layers.{has_layer}
use Rattle.sf_display.specs.sf_tree.Trees.{TreeOf}

-- two lists behind two others
pub zip_append : {A B : Type 0} (R : A → B → Type 0) (firsts : List A) (bs : List B) (xs : List A) (ys : List B) → AllZip R firsts bs → AllZip R xs ys → AllZip R (firsts ++ xs) (bs ++ ys)
zip_append R [] [] xs ys first second = second
zip_append R [] (b ∷ bs) xs ys first second = absurd first
zip_append R (a ∷ firsts) [] xs ys first second = absurd first
zip_append R (a ∷ firsts) (b ∷ bs) xs ys first second = (first.0, zip_append R firsts bs xs ys first.1 second)

-- one more of what is mapped
pub map_more : {A B C : Type 0} (R : B → C → Type 0) (f : A → B) (items : List A) (i : ℕ) (d : A) (made more : List C) (one : C) → i < length items → AllZip R (map f (take i items)) made → R (f (get_or items i d)) one → more ≡ made ++ one ∷ []
    → AllZip R (map f (take (i + 1) items)) more
map_more R f items i d made more one inside so_far fits is =
    let grown = ap (map f) (take_more items i d inside) ∙ map-append f (take i items) (get_or items i d ∷ []) in
    rw (grown, is) (all_zipped_more R _ _ _ _ so_far fits)

-- one more of what is mapped to one or none
pub one_more : {A B C : Type 0} (R : B → C → Type 0) (f : A → List B) (items : List A) (i : ℕ) (d : A) (made more : List C) (due : B) (one : C) → i < length items → AllZip R (flat_map f (take i items)) made → f (get_or items i d) ≡ due ∷ [] → R due one → more ≡ made ++ one ∷ []
    → AllZip R (flat_map f (take (i + 1) items)) more
one_more R f items i d made more due one inside so_far there fits is =
    let grown = ap (flat_map f) (take_more items i d inside) ∙ (flat_map-append f (take i items) (get_or items i d ∷ []) ∙ ap (λ (l : List _). flat_map f (take i items) ++ l) (append-nil (f (get_or items i d)) ∙ there)) in
    rw (grown, is) (all_zipped_more R _ _ _ _ so_far fits)

pub none_more : {A B C : Type 0} (R : B → C → Type 0) (f : A → List B) (items : List A) (i : ℕ) (d : A) (made : List C) → i < length items → AllZip R (flat_map f (take i items)) made → f (get_or items i d) ≡ []
    → AllZip R (flat_map f (take (i + 1) items)) made
none_more {A} {B} R f items i d made inside so_far there =
    let same = ap (flat_map f) (take_more items i d inside) ∙ (flat_map-append f (take i items) (get_or items i d ∷ []) ∙ (ap (λ (l : List B). flat_map f (take i items) ++ l) (append-nil (f (get_or items i d)) ∙ there) ∙ append-nil (flat_map f (take i items)))) in
    subst (λ (l : List B). AllZip R l made) (sym same) so_far

-- what is in front at any point
at_point : (tree : List Layer) (order : List LayerId) (width height : ℕ) (view : ViewOf) → ViewsInOrder tree order width height view → (x y : ℤ) → is_in_display width height x y ≡ true → hit_in view x y ≡ front tree order x y
at_point tree order width height view v (pos a) (pos b) on =
    let wide : int_lt (pos a) (pos 0 +ℤ pos width) ≡ true = and_right (int_le (pos 0) (pos a)) (int_lt (pos a) (pos 0 +ℤ pos width)) (and_left (is_within (pos 0) width (pos a)) (is_within (pos 0) height (pos b)) on) in
    let high : int_lt (pos b) (pos 0 +ℤ pos height) ≡ true = and_right (int_le (pos 0) (pos b)) (int_lt (pos b) (pos 0 +ℤ pos height)) (and_right (is_within (pos 0) width (pos a)) (is_within (pos 0) height (pos b)) on) in
    in_front tree order width height view v a b (omega (arith, ints, wide)) (omega (arith, ints, high))
at_point tree order width height view v (negsuc a) y on =
    let low : int_le (pos 0) (negsuc a) ≡ true = and_left (int_le (pos 0) (negsuc a)) (int_lt (negsuc a) (pos 0 +ℤ pos width)) (and_left (is_within (pos 0) width (negsuc a)) (is_within (pos 0) height y) on) in
    absurd (omega (arith, ints, low))
at_point tree order width height view v (pos a) (negsuc b) on =
    let low : int_le (pos 0) (negsuc b) ≡ true = and_left (int_le (pos 0) (negsuc b)) (int_lt (negsuc b) (pos 0 +ℤ pos height)) (and_right (is_within (pos 0) width (pos a)) (is_within (pos 0) height (negsuc b)) on) in
    absurd (omega (arith, ints, low))

pub hit_is : (tree : List Layer) (order : List LayerId) (width height : ℕ) (view : ViewOf) → ViewsInOrder tree order width height view → IsView view → (x y : ℤ)
    → hit_in view x y ≡ (if is_in_display width height x y then front tree order x y else None)
hit_is tree order width height view v kept x y = by_test (is_in_display width height x y) refl
  where
    by_test : (b : Bool) → is_in_display width height x y ≡ b → hit_in view x y ≡ (if b then front tree order x y else None)
    by_test true on = at_point tree order width height view v x y on
    by_test false off = off_display view x y kept ((λ i. is_in_display (v.wide i) (v.high i) x y) ∙ off)

-- the same by fewer stacks
pub same_displays : (layers : List Layer) (some all : List (ℕ × ℕ)) → SameOrders layers some all → (ds : List DisplayPlan) → map (display_due some layers) ds ≡ map (display_due all layers) ds
same_displays layers some all same ds =
    λ i. map
    (λ (d : DisplayPlan). out.Image (record { of = id.Display d.number; shows = record { layers = layers; order = same d.stack i; width = d.width; height = d.height } })) ds

-- a captured layer that is there, and one that is not
pub cut_there : (tree : List Layer) (capture : CapturePlan) (made : TreeOf) → Some made ≡ cut_of tree (id_of capture.layer)
    → capture_due tree capture ≡ (out.Image (record { of = id.Capture capture.number; shows = captured capture made.layers }) ∷ [])
cut_there tree capture made e = elim (cases_Bool (has_layer tree (id_of capture.layer))) [
  | inl met ↦
      let same = same_Some made (record { layers = cut tree (id_of capture.layer); most = 9216 }) (rw met at e) in
      rw met (ap (λ (t : TreeOf). out.Image (record { of = id.Capture capture.number; shows = captured capture t.layers }) ∷ []) (sym same))
  | inr unmet ↦ absurd (none-some made (sym (rw unmet at e)))
]

pub cut_none : (tree : List Layer) (capture : CapturePlan) → None ≡ cut_of tree (id_of capture.layer) → capture_due tree capture ≡ []
cut_none tree capture e = elim (cases_Bool (has_layer tree (id_of capture.layer))) [
  | inl met ↦ absurd (none-some _ (rw met at e))
  | inr unmet ↦ rw unmet refl
]

-- where there are no mirrors, the layers are those of the tree
pub unmirrored : (tree : List Layer) (mirrors : List (ℕ × ℕ)) → mirrors ≡ [] → written tree mirrors ≡ tree
unfolding written
unmirrored tree mirrors none = ap (λ (pairs : List (ℕ × ℕ)). written tree pairs) none

-- all outputs but the first, one kind behind the other
pub others_made : (plan : Plan) (tree : List Layer) (frames captures hits most all : List (Output ViewOf)) → AreShown (map (display_due plan.stacks (written tree plan.mirrors)) plan.displays) frames
    → AreShown (flat_map (capture_due tree) plan.captures) captures → AreShown (map (hit_due plan tree) plan.hits) hits → most ≡ frames ++ captures → all ≡ most ++ hits → AreShown (others_due plan tree) all
others_made plan tree frames captures hits most all shown taken told first second =
    subst (λ (made : List (Output ViewOf)). AreShown (others_due plan tree) made) (sym (second ∙ ap (λ (l : List (Output ViewOf)). l ++ hits) first))
    (zip_append (IsOutput ShowsDue) (map (display_due plan.stacks (written tree plan.mirrors)) plan.displays ++ flat_map (capture_due tree) plan.captures) (frames ++ captures) (map (hit_due plan tree) plan.hits) hits
    (zip_append (IsOutput ShowsDue) (map (display_due plan.stacks (written tree plan.mirrors)) plan.displays) frames (flat_map (capture_due tree) plan.captures) captures shown taken) told)
