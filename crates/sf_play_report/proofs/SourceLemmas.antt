-- What is shown of a tree is on its layers: each drawn layer of a view that is due shows a buffer that stands for a layer, so it has a source.
use Rattle.std.proofs.Common.{◌≡◌, ℕ, ◌<◌, Bool, true, List, [], ◌∷◌, length, get_or, map, find, Option, Some, None, refl, ap, sym, ◌∙◌, subst, inl, inr}
use Rattle.std.specs.Prelude.{slice_get}
use Rattle.std.specs.List.{All, AllZip, cons_option, filter_map, position, position_or_len}
use Rattle.std.specs.Option.{option_map, unwrap_or}
use Rattle.std.proofs.lemmas.Bool.{cases_Bool, eqb-true, lt-ltb}
use Rattle.std.proofs.lemmas.List.Elements.{All-append, All-cons, All-filter, All-head, All-nil, All-tail}
use Rattle.std.proofs.lemmas.List.Folds.{find_at}
use Rattle.std.proofs.lemmas.Option.{get_or_from_slice_get, none-some, same_Some, slice_get_within}
use Rattle.sf_base.specs.declared.ids.LayerId.{LayerId}
use Rattle.law_played.specs.sf_layer.declared.kind.Kind.{Kind}
use Rattle.law_played.specs.sf_layer.declared.kind.Kind.TheVariants as kind
use Rattle.law_played.specs.sf_layer.declared.layer.Layer.{Layer}
use Rattle.law_played.specs.sf_layer.declared.shown.Shown.{Shown}
use Rattle.law_played.specs.sf_tree.Kept.{IsDistinct}
use Rattle.law_played.specs.sf_tree.Layers.{is_numbered, layer_of}
use Rattle.law_played.proofs.sf_tree_lemmas.TreeKept.{found_itself}
use Rattle.law_played.specs.sf_view.Contents.{content_of, has_content}
use Rattle.law_played.specs.sf_view.Image.{drawn_in}
use Rattle.law_played.specs.sf_view.Views.{Draws, ViewOf, ViewsInOrder}
use Rattle.law_played.specs.sf_view.declared.content.Content.{Content}
use Rattle.law_played.specs.sf_view.declared.content.Content.TheVariants as content
use Rattle.law_played.specs.sf_view.declared.drawn.Drawn.{Drawn}
use Rattle.law_played.specs.sf_output_shown.Copies.{copied, copies, mirrors, named, number_of, with_copies, written, written_from}
use Rattle.law_played.specs.sf_output_shown.Cuts.{cut, cut_layer, is_under, under}
use Rattle.law_played.specs.sf_commit.Handlers.{source_of}
use Rattle.law_played.specs.sf_commit.OnLayers.{OnLayer, is_on}
use Rattle.law_played.specs.sf_commit.Standing.{Stands, shown_at, shown_for}
use Rattle.sf_play_report.specs.Stages.{AllShowOn, AreSourcesOf, IsSourceOf, ShowsOn}

some-none : {X : Type 0} (x : X) → Some x ≡ None → ⊥
some-none x e = none-some x (sym e)

-- what a layer shows that draws a buffer
content_shown : (layer : Layer) (shown : Shown) → Some (content.Buffer shown) ≡ content_of layer → layer.shown ≡ Some shown
content_shown layer shown e = by_kind layer.kind layer.shown refl refl
  where
    by_kind : (k : Kind) (s : Option Shown) → layer.kind ≡ k → layer.shown ≡ s → layer.shown ≡ Some shown
    by_kind kind.Container s p q = let none : Some (content.Buffer shown) ≡ None = e ∙ (rw p refl) in absurd (some-none (content.Buffer shown) none)
    by_kind kind.Colour s p q = let some : Some (content.Buffer shown) ≡ Some (content.Colour layer.colour) = e ∙ (rw p refl) in cc
    by_kind kind.Buffer None p q = let none : Some (content.Buffer shown) ≡ None = e ∙ (rw (p, q) refl) in absurd (some-none (content.Buffer shown) none)
    by_kind kind.Buffer (Some other) p q =
        let some : Some (content.Buffer shown) ≡ Some (content.Buffer other) = e ∙ (rw (p, q) refl) in
        let same : other ≡ shown = cc in
        q ∙ ap (λ (x : Shown). Some x) same

-- what holds of all holds of the one that is found
found_has : {X : Type 0} (P : X → Type 0) (p : X → Bool) (xs : List X) (x : X) → All P xs → find p xs ≡ Some x → P x
found_has P p [] x all e = absurd (none-some x e)
found_has P p (y ∷ ys) x all e = elim (cases_Bool (p y)) [
  | inl met ↦ subst P (same_Some y x (rw met at e)) (All-head P y ys all)
  | inr unmet ↦ found_has P p ys x (All-tail P y ys all) (rw unmet at e)
]

-- what is said of what each layer shows stays true of the layers that an order draws
module _ (P : Option Shown → Type 0) where
  abbrev Said : Layer → Type 0
  Said layer = P layer.shown

  named_said : (tree : List Layer) (order : List LayerId) → All Said tree → All Said (filter_map (layer_of tree) order)
  named_said tree [] all = All-nil Said
  named_said tree (id ∷ order) all = by_found (layer_of tree id) refl (named_said tree order all)
    where
      by_found : (o : Option Layer) → layer_of tree id ≡ o → All Said (filter_map (layer_of tree) order) → All Said (cons_option (layer_of tree id) (filter_map (layer_of tree) order))
      by_found None e rest = subst (λ (o : Option Layer). All Said (cons_option o (filter_map (layer_of tree) order))) (sym e) rest
      by_found (Some layer) e rest =
          subst (λ (o : Option Layer). All Said (cons_option o (filter_map (layer_of tree) order))) (sym e)
          (All-cons Said layer (filter_map (layer_of tree) order) (found_has Said (is_numbered id) tree layer all e) rest)

  pub drawn_said : (tree : List Layer) (order : List LayerId) → All Said tree → All Said (drawn_in tree order)
  unfolding drawn_in
  drawn_said tree order all = All-filter has_content Said (filter_map (layer_of tree) order) (named_said tree order all)

  -- of a cut tree
  cut_shown : (kept : List Layer) (id : LayerId) (layer : Layer) → (cut_layer kept id layer).shown ≡ layer.shown
  cut_shown kept id layer = elim (cases_Bool (is_numbered id layer)) [ inl met ↦ rw met refl | inr unmet ↦ rw unmet refl ]

  each_same : (f : Layer → Layer) → ((layer : Layer) → (f layer).shown ≡ layer.shown) → (layers : List Layer) → All Said layers → All Said (map f layers)
  each_same f same [] all = All-nil Said
  each_same f same (layer ∷ layers) all =
      All-cons Said (f layer) (map f layers) (subst P (sym (same layer)) (All-head Said layer layers all)) (each_same f same layers (All-tail Said layer layers all))

  pub cut_said : (tree : List Layer) (id : LayerId) → All Said tree → All Said (cut tree id)
  cut_said tree id all = each_same (cut_layer (under tree id) id) (cut_shown (under tree id) id) (under tree id) (All-filter (is_under tree id) Said tree all)

  -- of a tree with its mirrors written out
  copy_shown : (mirror id : LayerId) (names : List (LayerId × LayerId)) (layer : Layer) → (copied mirror id names layer).shown ≡ layer.shown
  copy_shown mirror id names layer = elim (cases_Bool (is_numbered id layer)) [ inl met ↦ rw met refl | inr unmet ↦ rw unmet refl ]

  copies_said : (tree so_far : List Layer) (mirror id : LayerId) → All Said tree → All Said (copies tree so_far mirror id)
  copies_said tree so_far mirror id all =
      let names = named (map number_of so_far) (under tree id) in
      each_same (copied mirror id names) (copy_shown mirror id names) (under tree id) (All-filter (is_under tree id) Said tree all)

  more_said : (tree so_far : List Layer) (pair : ℕ × ℕ) → All Said tree → All Said so_far → All Said (with_copies tree so_far pair)
  more_said tree so_far pair all before = elim (cases_Bool (mirrors tree pair)) [
    | inl met ↦ rw met (All-append Said so_far (copies tree so_far (record { 0 = pair.0 }) (record { 0 = pair.1 })) before (copies_said tree so_far (record { 0 = pair.0 }) (record { 0 = pair.1 }) all))
    | inr unmet ↦ rw unmet before
  ]

  from_said : (tree so_far : List Layer) (pairs : List (ℕ × ℕ)) → All Said tree → All Said so_far → All Said (written_from tree so_far pairs)
  from_said tree so_far [] all before = before
  from_said tree so_far (pair ∷ pairs) all before = from_said tree (with_copies tree so_far pair) pairs all (more_said tree so_far pair all before)

  pub written_said : (tree : List Layer) (pairs : List (ℕ × ℕ)) → All Said tree → All Said (written tree pairs)
  unfolding written
  written_said tree pairs all = from_said tree tree pairs all all

module _ {L : Type 0} (on : List (OnLayer L)) where
  -- the buffer that a layer shows, if it shows one, stands for a layer
  abbrev pub IsOnIf : Option Shown → Type 0
  IsOnIf None = Unit {0}
  IsOnIf (Some shown) = ShowsOn on (content.Buffer shown)

  abbrev pub AllOn : List Layer → Type 0
  AllOn layers = All (λ (layer : Layer). IsOnIf layer.shown) layers

  -- the place of the one buffer that stands for a layer of this number
  record IsFound (id : LayerId) (shown : Shown) : Type 0 where
    one : OnLayer L
    place : ℕ
    same : one.shown ≡ shown
    first : position (is_on id) on ≡ Some place
    there : slice_get on place ≡ Some one

  found : (id : LayerId) (shown : Shown) → shown_for on id ≡ Some shown → IsFound id shown
  found id shown is = by_found (find (is_on id) on) refl is
    where
      by_found : (o : Option (OnLayer L)) → find (is_on id) on ≡ o → option_map (λ (one : OnLayer L). one.shown) o ≡ Some shown → IsFound id shown
      by_found None e is = absurd (none-some shown is)
      by_found (Some one) e is =
          let there = sym (find_at (is_on id) on) ∙ e in
          let below : (position_or_len (is_on id) on < length on) = slice_get_within on (position_or_len (is_on id) on) one there in
          record {
            one = one;
            place = position_or_len (is_on id) on;
            same = same_Some one.shown shown is;
            first = rw (lt-ltb (position_or_len (is_on id) on) (length on) below) refl;
            there = there;
          }

  is_source : (id : LayerId) (shown : Shown) (f : IsFound id shown) → (f.place < length on) × ((d : OnLayer L) → (get_or on f.place d).shown ≡ shown)
  is_source id shown f = (slice_get_within on f.place f.one f.there, λ d. ap (λ (one : OnLayer L). one.shown) (get_or_from_slice_get on f.place f.one d f.there) ∙ f.same)

  -- what each layer of a tree shows stands for it
  pub tree_on : (tree : List Layer) → Stands tree on → IsDistinct tree → AllOn tree
  tree_on tree stands distinct = λ k d below. by_shown (get_or tree k d) (found_itself tree distinct k d below) (get_or tree k d).shown refl
    where
      by_shown : (layer : Layer) → layer_of tree layer.number ≡ Some layer → (s : Option Shown) → layer.shown ≡ s → IsOnIf layer.shown
      by_shown layer there None e = subst IsOnIf (sym e) tt
      by_shown layer there (Some shown) e =
          let f = found layer.number shown (sym (stands.same layer.number) ∙ (ap shown_at there ∙ e)) in
          let at = is_source layer.number shown f in
          subst IsOnIf (sym e) (f.place, at.0, at.1)

  -- what a layer of a view shows that draws one of these
  drawn_on : (tree : List Layer) (width height : ℕ) (layer : Layer) (drawn : Drawn) → Draws tree width height layer drawn → IsOnIf layer.shown → (c : Content) → drawn.content ≡ c → ShowsOn on c
  drawn_on tree width height layer drawn draws is (content.Colour colour) e = tt
  drawn_on tree width height layer drawn draws is (content.Buffer shown) e =
      subst IsOnIf (content_shown layer shown (ap (λ (c : Content). Some c) (sym e) ∙ draws.content)) is

  each_on : (tree : List Layer) (width height : ℕ) (layers : List Layer) (drawn : List Drawn) → AllZip (Draws tree width height) layers drawn → AllOn layers → AllShowOn on drawn
  each_on tree width height [] [] draws all = All-nil (λ (one : Drawn). ShowsOn on one.content)
  each_on tree width height [] (d ∷ ds) draws all = absurd draws
  each_on tree width height (l ∷ ls) [] draws all = absurd draws
  each_on tree width height (l ∷ ls) (d ∷ ds) draws all =
      All-cons (λ (one : Drawn). ShowsOn on one.content) d ds
      (drawn_on tree width height l d draws.0 (All-head (λ (layer : Layer). IsOnIf layer.shown) l ls all) d.content refl)
      (each_on tree width height ls ds draws.1 (All-tail (λ (layer : Layer). IsOnIf layer.shown) l ls all))

  -- so does each drawn layer of a view of them
  pub view_on : (tree : List Layer) (order : List LayerId) (width height : ℕ) (view : ViewOf) → ViewsInOrder tree order width height view → AllOn tree → AllShowOn on view.drawn
  view_on tree order width height view views all = each_on tree width height (drawn_in tree order) view.drawn views.drawn (drawn_said IsOnIf tree order all)

  -- a layer that is drawn is the one of its number
  itself : (tree : List Layer) (id : LayerId) (layer : Layer) → layer_of tree id ≡ Some layer → layer_of tree layer.number ≡ Some layer
  itself tree id layer e =
      let met = passes tree e in
      ap (λ (n : ℕ). layer_of tree (record { 0 = n })) (eqb-true layer.number.0 id.0 met) ∙ e
    where
      passes : (xs : List Layer) → layer_of xs id ≡ Some layer → is_numbered id layer ≡ true
      passes [] e = absurd (none-some layer e)
      passes (y ∷ ys) e = elim (cases_Bool (is_numbered id y)) [
        | inl met ↦ subst (λ (l : Layer). is_numbered id l ≡ true) (same_Some y layer (rw met at e)) met
        | inr unmet ↦ passes ys (rw unmet at e)
      ]

  named_there : (tree : List Layer) (order : List LayerId) → All (λ (layer : Layer). layer_of tree layer.number ≡ Some layer) (filter_map (layer_of tree) order)
  named_there tree [] = All-nil (λ (layer : Layer). layer_of tree layer.number ≡ Some layer)
  named_there tree (id ∷ order) = by_found (layer_of tree id) refl (named_there tree order)
    where
      by_found : (o : Option Layer) → layer_of tree id ≡ o → All (λ (layer : Layer). layer_of tree layer.number ≡ Some layer) (filter_map (layer_of tree) order)
          → All (λ (layer : Layer). layer_of tree layer.number ≡ Some layer) (cons_option (layer_of tree id) (filter_map (layer_of tree) order))
      by_found None e rest = subst (λ (o : Option Layer). All (λ (layer : Layer). layer_of tree layer.number ≡ Some layer) (cons_option o (filter_map (layer_of tree) order))) (sym e) rest
      by_found (Some layer) e rest =
          subst (λ (o : Option Layer). All (λ (layer : Layer). layer_of tree layer.number ≡ Some layer) (cons_option o (filter_map (layer_of tree) order))) (sym e)
          (All-cons (λ (layer : Layer). layer_of tree layer.number ≡ Some layer) layer (filter_map (layer_of tree) order) (itself tree id layer e) rest)

  drawn_there : (tree : List Layer) (order : List LayerId) → All (λ (layer : Layer). layer_of tree layer.number ≡ Some layer) (drawn_in tree order)
  unfolding drawn_in
  drawn_there tree order = All-filter has_content (λ (layer : Layer). layer_of tree layer.number ≡ Some layer) (filter_map (layer_of tree) order) (named_there tree order)

  -- the source of a drawn layer is the place of the buffer that stands for it
  source_is : (tree : List Layer) (width height : ℕ) → Stands tree on → (layer : Layer) (drawn : Drawn) → layer_of tree layer.number ≡ Some layer → Draws tree width height layer drawn
      → (c : Content) → drawn.content ≡ c → IsSourceOf on c (source_of on drawn)
  source_is tree width height stands layer drawn there draws (content.Colour colour) e = tt
  source_is tree width height stands layer drawn there draws (content.Buffer shown) e =
      let shows = content_shown layer shown (ap (λ (c : Content). Some c) (sym e) ∙ draws.content) in
      let f = found drawn.layer shown (ap (shown_for on) draws.number ∙ (sym (stands.same layer.number) ∙ (ap shown_at there ∙ shows))) in
      let at : source_of on drawn ≡ f.place = ap (λ (o : Option ℕ). unwrap_or o 0) f.first in
      subst (λ (place : ℕ). IsSourceOf on (content.Buffer shown) place) (sym at) (is_source drawn.layer shown f)

  each_source : (tree : List Layer) (width height : ℕ) → Stands tree on → (layers : List Layer) (drawn : List Drawn) → AllZip (Draws tree width height) layers drawn
      → All (λ (layer : Layer). layer_of tree layer.number ≡ Some layer) layers → AreSourcesOf on drawn (map (source_of on) drawn)
  each_source tree width height stands [] [] draws all = tt
  each_source tree width height stands [] (d ∷ ds) draws all = absurd draws
  each_source tree width height stands (l ∷ ls) [] draws all = absurd draws
  each_source tree width height stands (l ∷ ls) (d ∷ ds) draws all = (
    source_is tree width height stands l d (All-head (λ (layer : Layer). layer_of tree layer.number ≡ Some layer) l ls all) draws.0 d.content refl,
    each_source tree width height stands ls ds draws.1 (All-tail (λ (layer : Layer). layer_of tree layer.number ≡ Some layer) l ls all),
  )

  -- the sources of the view of the whole tree
  pub own_sources : (tree : List Layer) (order : List LayerId) (width height : ℕ) (view : ViewOf) (sources : List ℕ) → Stands tree on → ViewsInOrder tree order width height view
      → sources ≡ map (source_of on) view.drawn → AreSourcesOf on view.drawn sources
  own_sources tree order width height view sources stands views are =
      subst (AreSourcesOf on view.drawn) (sym are) (each_source tree width height stands (drawn_in tree order) view.drawn views.drawn (drawn_there tree order))
