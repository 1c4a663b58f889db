-- What is to be composed is what is due, and finds its pictures.
use Rattle.std.proofs.Common.{◌≡◌, ℕ, ◌+◌, ◌<◌, List, [], ◌∷◌, ◌++◌, length, get_or, map, take, Option, Some, None, Result, Ok, Err, refl, ap, sym, ◌∙◌, subst, inl, inr, arith}
use Rattle.std.specs.Prelude.{IfOk, slice_get}
use Rattle.std.specs.List.{All, AllZip, flat_map}
use Rattle.std.specs.Option.{IfSome, IsSome, option_map}
use Rattle.std.proofs.lemmas.Bool.{cases_Bool}
use Rattle.std.proofs.lemmas.List.{take_more}
use Rattle.std.proofs.lemmas.List.Elements.{All-append, All-cons, All-head, All-map, All-nil, All-tail}
use Rattle.std.proofs.lemmas.Option.{get_or_from_slice_get, slice_get-get_or, slice_get-map, slice_get_within}
use Rattle.std.proofs.lemmas.Slice.Zip.{all_zipped_more}
use Rattle.sf_base.specs.Geometry.{LiesWithin}
use Rattle.sf_base.specs.declared.ids.LayerId.{LayerId}
use Rattle.law_played.specs.sf_compose.Readings.{IsReadable, no_picture}
use Rattle.law_played.specs.sf_compose.Sources.{HasSource}
use Rattle.law_played.specs.sf_layer.declared.layer.Layer.{Layer}
use Rattle.law_played.specs.sf_layer.declared.shown.Shown.{Shown}
use Rattle.law_played.specs.sf_output.Outputs.{IsOutput, OfImage}
use Rattle.law_played.specs.sf_output.declared.image.ImageId.TheVariants as id
use Rattle.law_played.specs.sf_output.declared.output.Output.{Output}
use Rattle.law_played.specs.sf_output.declared.output.Output.TheVariants as out
use Rattle.law_played.specs.sf_picture.declared.picture.Picture.{Picture}
use Rattle.law_played.specs.sf_output_plan.Due.{ImageDue, IsFrameDue, ShowsDue, capture_due, display_due, frame_due, hit_due, id_of, others_due, outputs_due}
use Rattle.law_played.specs.sf_output_plan.declared.plan.CapturePlan.{CapturePlan}
use Rattle.law_played.specs.sf_output_plan.declared.plan.Plan.{Plan}
use Rattle.law_played.specs.sf_output_shown.Copies.{written}
use Rattle.law_played.specs.sf_output_shown.Displays.{order_on}
use Rattle.law_played.proofs.sf_output_shown_lemmas.StackLemmas.{no_stacks}
use Rattle.law_played.specs.sf_tree.Layers.{has_layer}
use Rattle.law_played.specs.sf_txn.Buffers.{Shows}
use Rattle.law_played.specs.sf_view.Views.{ViewOf, Views, ViewsInOrder}
use Rattle.law_played.specs.sf_view.declared.content.Content.{Content}
use Rattle.law_played.specs.sf_view.declared.content.Content.TheVariants as content
use Rattle.law_played.specs.sf_view.declared.drawn.Drawn.{Drawn}
use Rattle.law_played.specs.sf_commit.OnLayers.{IsPlaceOf, OnLayer}
use Rattle.sf_play_report.specs.Stages.{AllShowOn, AreSourcesOf, FindsPictures, IsReadableView, IsSourceOf, IsSourcedBy, IsSourcedDue, ShowsOn}
use Rattle.sf_play_report.specs.declared.sourced.SourcedView.{SourcedView}
use Rattle.sf_play_report.proofs.SourceLemmas.{AllOn, IsOnIf, cut_said, view_on, written_said}

-- what is so of what came of it, where it succeeded
pub if_ok : {T E : Type 0} (P Q : T → Type 0) (r : Result T E) → ((x : T) → P x → Q x) → IfOk r P → IfOk r Q
if_ok P Q (Ok x) f p = f x p
if_ok P Q (Err e) f p = tt

pub if_both : {T E : Type 0} (P R Q : T → Type 0) (r : Result T E) → ((x : T) → P x → R x → Q x) → IfOk r P → IfOk r R → IfOk r Q
if_both P R Q (Ok x) f p s = f x p s
if_both P R Q (Err e) f p s = tt

-- what is known of an output and of one that fits it
of_image : {A B : Type 0} (P : A → Type 0) (R : A → B → Type 0) (Q : B → Type 0) → ((a : A) (b : B) → P a → R a b → Q b)
    → (x : Output A) (y : Output B) → OfImage P x → IsOutput R x y → OfImage Q y
of_image P R Q f (out.Image a) (out.Image b) p r = f a.shows b.shows p r.1
of_image P R Q f (out.Hit n l) (out.Hit m k) p r = tt
of_image P R Q f _ _ p r = absurd r

of_images : {A B : Type 0} (P : A → Type 0) (R : A → B → Type 0) (Q : B → Type 0) → ((a : A) (b : B) → P a → R a b → Q b)
    → (xs : List (Output A)) (ys : List (Output B)) → All (OfImage P) xs → AllZip (IsOutput R) xs ys → All (OfImage Q) ys
of_images P R Q f [] [] all zip = All-nil (OfImage Q)
of_images P R Q f [] (y ∷ ys) all zip = absurd zip
of_images P R Q f (x ∷ xs) [] all zip = absurd zip
of_images P R Q f (x ∷ xs) (y ∷ ys) all zip =
    All-cons (OfImage Q) y ys (of_image P R Q f x y (All-head (OfImage P) x xs all) zip.0) (of_images P R Q f xs ys (All-tail (OfImage P) x xs all) zip.1)

-- one output that fits another, which fits a third one
then_output : {A B C : Type 0} (R : A → B → Type 0) (S : B → C → Type 0) (T : A → C → Type 0) → ((a : A) (b : B) (c : C) → R a b → S b c → T a c)
    → (x : Output A) (y : Output B) (z : Output C) → IsOutput R x y → IsOutput S y z → IsOutput T x z
then_output R S T f (out.Image a) (out.Image b) (out.Image c) r s = (r.0 ∙ s.0, f a.shows b.shows c.shows r.1 s.1)
then_output R S T f (out.Image a) (out.Image b) _ r s = absurd s
then_output R S T f (out.Hit n a) (out.Hit m b) (out.Hit k c) r s = (r.0 ∙ s.0, r.1 ∙ s.1)
then_output R S T f (out.Hit n a) (out.Hit m b) _ r s = absurd s
then_output R S T f _ _ _ r s = absurd r

then_outputs : {A B C : Type 0} (R : A → B → Type 0) (S : B → C → Type 0) (T : A → C → Type 0) → ((a : A) (b : B) (c : C) → R a b → S b c → T a c)
    → (xs : List (Output A)) (ys : List (Output B)) (zs : List (Output C)) → AllZip (IsOutput R) xs ys → AllZip (IsOutput S) ys zs → AllZip (IsOutput T) xs zs
then_outputs R S T f [] [] [] r s = tt
then_outputs R S T f [] [] (z ∷ zs) r s = absurd s
then_outputs R S T f [] (y ∷ ys) zs r s = absurd r
then_outputs R S T f (x ∷ xs) [] zs r s = absurd r
then_outputs R S T f (x ∷ xs) (y ∷ ys) [] r s = absurd s
then_outputs R S T f (x ∷ xs) (y ∷ ys) (z ∷ zs) r s = (then_output R S T f x y z r.0 s.0, then_outputs R S T f xs ys zs r.1 s.1)

zip_weaker : {A B : Type 0} (R S : A → B → Type 0) → ((a : A) (b : B) → R a b → S a b) → (xs : List A) (ys : List B) → AllZip R xs ys → AllZip S xs ys
zip_weaker R S f [] [] zip = tt
zip_weaker R S f [] (y ∷ ys) zip = absurd zip
zip_weaker R S f (x ∷ xs) [] zip = absurd zip
zip_weaker R S f (x ∷ xs) (y ∷ ys) zip = (f x y zip.0, zip_weaker R S f xs ys zip.1)

-- an item of a list that has one at this place
some_item : {X : Type 0} (xs : List X) (k : ℕ) → k < length xs → X
some_item [] k below = absurd (omega (arith, below))
some_item (x ∷ xs) k below = x

-- where the plan has neither stacks nor mirrors, the view of the whole tree is the one that is due
pub own_due : (plan : Plan) (tree : List Layer) (view : ViewOf) → plan.stacks ≡ [] → plan.mirrors ≡ [] → Views tree plan.width plan.height view → ShowsDue (frame_due plan (written tree plan.mirrors)) view
unfolding written
own_due plan tree view none no_mirrors views =
    subst (λ (mirrors : List (ℕ × ℕ)). ShowsDue (frame_due plan (written tree mirrors)) view) (sym no_mirrors)
    (subst (λ (stacks : List (ℕ × ℕ)). ViewsInOrder tree (order_on tree stacks 0) plan.width plan.height view) (sym none)
    (subst (λ (order : List LayerId). ViewsInOrder tree order plan.width plan.height view) (sym (no_stacks tree)) views))

-- the frame of the scene's own display
abbrev pub own_frame : SourcedView → Output SourcedView
own_frame sourced = out.Image (record { of = id.Frame; shows = sourced })

module _ {L : Type 0} (on : List (OnLayer L)) where
  -- what a layer shows of an image that is due stands for a layer of the tree
  abbrev pub ImageOn : ImageDue → Type 0
  ImageOn due = AllOn on due.layers

  captures_on : (tree : List Layer) → AllOn on tree → (captures : List CapturePlan) → All (OfImage ImageOn) (flat_map (capture_due tree) captures)
  captures_on tree all [] = All-nil (OfImage ImageOn)
  captures_on tree all (capture ∷ captures) =
      All-append (OfImage ImageOn) (capture_due tree capture) (flat_map (capture_due tree) captures) one (captures_on tree all captures)
    where
      one : All (OfImage ImageOn) (capture_due tree capture)
      one = elim (cases_Bool (has_layer tree (id_of capture.layer))) [
        | inl met ↦ rw met (All-cons (OfImage ImageOn) _ [] (cut_said (IsOnIf on) tree (id_of capture.layer) all) (All-nil (OfImage ImageOn)))
        | inr unmet ↦ rw unmet (All-nil (OfImage ImageOn))
      ]

  pub others_on : (plan : Plan) (tree : List Layer) → AllOn on tree → All (OfImage ImageOn) (others_due plan tree)
  others_on plan tree all =
      All-append (OfImage ImageOn) (map (display_due plan.stacks (written tree plan.mirrors)) plan.displays ++ flat_map (capture_due tree) plan.captures) (map (hit_due plan tree) plan.hits)
      (All-append (OfImage ImageOn) (map (display_due plan.stacks (written tree plan.mirrors)) plan.displays) (flat_map (capture_due tree) plan.captures)
      (All-map (OfImage ImageOn) (display_due plan.stacks (written tree plan.mirrors)) plan.displays (λ k d below. written_said (IsOnIf on) tree plan.mirrors all))
      (captures_on tree all plan.captures))
      (All-map (OfImage ImageOn) (hit_due plan tree) plan.hits (λ k d below. tt))

  due_on : (due : ImageDue) (view : ViewOf) → ImageOn due → ShowsDue due view → AllShowOn on view.drawn
  due_on due view is shows = view_on on due.layers due.order due.width due.height view shows is

  -- the place of a buffer that stands for a layer is found
  pub place_there : (shown : Shown) (place : Option ℕ) → IsPlaceOf shown on place → ShowsOn on (content.Buffer shown) → IsSome place
  place_there shown None others is = let d = some_item on is.0 is.1 in absurd (others is.0 d is.1 (is.2 d))
  place_there shown (Some place) at is = refl

  -- one more drawn layer has its source
  pub sources_more : (drawn : List Drawn) (i : ℕ) (d : Drawn) (sources more : List ℕ) (source : ℕ) → i < length drawn → AreSourcesOf on (take i drawn) sources → IsSourceOf on (get_or drawn i d).content source
      → more ≡ sources ++ source ∷ [] → AreSourcesOf on (take (i + 1) drawn) more
  sources_more drawn i d sources more source inside so_far is grown =
      rw (take_more drawn i d inside, grown) (all_zipped_more (λ (one : Drawn) (source : ℕ). IsSourceOf on one.content source) _ _ _ _ so_far is)

  -- the view of the scene's own display shows what stands for layers, and it is due
  pub own_on : (plan : Plan) (tree : List Layer) (frame : Option ViewOf) → AllOn on tree → IsFrameDue plan (written tree plan.mirrors) frame → IfSome frame (λ (own : ViewOf). AllShowOn on own.drawn)
  own_on plan tree None all due = tt
  own_on plan tree (Some own) all due = due_on (frame_due plan (written tree plan.mirrors)) own (written_said (IsOnIf on) tree plan.mirrors all) due.1

  -- where no other view is due, that of the whole tree is
  pub whole_due : (plan : Plan) (tree : List Layer) (sourced : SourcedView) → IsFrameDue plan (written tree plan.mirrors) None → Views tree plan.width plan.height sourced.view
      → AreSourcesOf on sourced.view.drawn sourced.sources → IsSourcedDue on (frame_due plan (written tree plan.mirrors)) sourced
  whole_due plan tree sourced due views sources = record { shows = own_due plan tree sourced.view due.0 due.1 views; sources = sources }

  pub views_on : (dues : List (Output ImageDue)) (views : List (Output ViewOf)) → All (OfImage ImageOn) dues → AllZip (IsOutput ShowsDue) dues views
      → All (OfImage (λ (view : ViewOf). AllShowOn on view.drawn)) views
  views_on dues views all shown = of_images ImageOn ShowsDue (λ (view : ViewOf). AllShowOn on view.drawn) due_on dues views all shown

  pub made_of : (due : ImageDue) (view : ViewOf) (sourced : SourcedView) → ShowsDue due view → IsSourcedBy on view sourced → IsSourcedDue on due sourced
  made_of due view sourced shows by = record {
    shows = subst (ShowsDue due) (sym by.same) shows;
    sources = subst (λ (v : ViewOf). AreSourcesOf on v.drawn sourced.sources) (sym by.same) by.sources;
  }

  pub made_others : (dues : List (Output ImageDue)) (views : List (Output ViewOf)) (made : List (Output SourcedView)) → AllZip (IsOutput ShowsDue) dues views → AllZip (IsOutput (IsSourcedBy on)) views made
      → AllZip (IsOutput (IsSourcedDue on)) dues made
  made_others dues views made shown sourced = then_outputs ShowsDue (IsSourcedBy on) (IsSourcedDue on) made_of dues views made shown sourced

  -- the frame first, and all others behind it
  pub all_made : (plan : Plan) (tree : List Layer) (frame : SourcedView) (others : List (Output ViewOf)) (made all : List (Output SourcedView)) → IsSourcedDue on (frame_due plan (written tree plan.mirrors)) frame
      → AllZip (IsOutput ShowsDue) (others_due plan tree) others → AllZip (IsOutput (IsSourcedBy on)) others made → all ≡ own_frame frame ∷ made
      → AllZip (IsOutput (IsSourcedDue on)) (outputs_due plan tree) all
  all_made plan tree frame others made all by shown sourced is =
      subst (AllZip (IsOutput (IsSourcedDue on)) (outputs_due plan tree)) (sym is) ((refl, by), made_others (others_due plan tree) others made shown sourced)

  pub dues_of : (dues : List (Output ImageDue)) (made : List (Output SourcedView)) → AllZip (IsOutput (IsSourcedDue on)) dues made
      → AllZip (IsOutput (λ (due : ImageDue) (sourced : SourcedView). ShowsDue due sourced.view)) dues made
  dues_of dues made is = zip_weaker (IsOutput (IsSourcedDue on)) (IsOutput (λ (due : ImageDue) (sourced : SourcedView). ShowsDue due sourced.view)) each dues made is
    where
      each : (a : Output ImageDue) (b : Output SourcedView) → IsOutput (IsSourcedDue on) a b → IsOutput (λ (due : ImageDue) (sourced : SourcedView). ShowsDue due sourced.view) a b
      each (out.Image a) (out.Image b) is = (is.0, is.1.shows)
      each (out.Hit n a) (out.Hit m b) is = is
      each _ _ is = absurd is

  module _ (expects : OnLayer L → Picture) (crops : All (λ (one : OnLayer L). Shows one.shown (expects one)) on) where
    -- a source has its picture
    there : (source : ℕ) (below : source < length on) → slice_get (map expects on) source ≡ Some (expects (get_or on source (some_item on source below)))
    there source below = slice_get-map expects on source ∙ ap (option_map expects) (slice_get-get_or on source (some_item on source below) below)

    crop : (shown : Shown) (source : ℕ) (is : IsSourceOf on (content.Buffer shown) source)
        → LiesWithin shown.crop (expects (get_or on source (some_item on source is.0))).width (expects (get_or on source (some_item on source is.0))).height
    crop shown source is =
        let d = some_item on source is.0 in
        subst (λ (s : Shown). LiesWithin s.crop (expects (get_or on source d)).width (expects (get_or on source d)).height) (is.1 d) (crops source d is.0).crop

    readable_one : (c : Content) (source : ℕ) → IsSourceOf on c source → IsReadable (map expects on) c source
    readable_one (content.Colour colour) source is = tt
    readable_one (content.Buffer shown) source is = record {
      within = slice_get_within (map expects on) source (expects (get_or on source (some_item on source is.0))) (there source is.0);
      crop = subst (λ (p : Picture). LiesWithin shown.crop p.width p.height)
          (sym (get_or_from_slice_get (map expects on) source (expects (get_or on source (some_item on source is.0))) no_picture (there source is.0))) (crop shown source is);
    }

    made_readable : (due : ImageDue) (sourced : SourcedView) → IsSourcedDue on due sourced → IsReadableView (map expects on) sourced
    made_readable due sourced made = record {
      all = zip_weaker (λ (one : Drawn) (source : ℕ). IsSourceOf on one.content source) (λ (one : Drawn) (source : ℕ). IsReadable (map expects on) one.content source)
          (λ one source is. readable_one one.content source is) sourced.view.drawn sourced.sources made.sources;
    }

    -- what is made can be composed
    pub all_readable : (dues : List (Output ImageDue)) (made : List (Output SourcedView)) → AllZip (IsOutput (IsSourcedDue on)) dues made → All (OfImage (IsReadableView (map expects on))) made
    all_readable dues made is =
        of_images (λ (due : ImageDue). Unit {0}) (IsSourcedDue on) (IsReadableView (map expects on)) (λ due sourced u m. made_readable due sourced m) dues made (all_unit dues) is
      where
        all_unit : (xs : List (Output ImageDue)) → All (OfImage (λ (due : ImageDue). Unit {0})) xs
        all_unit xs = λ k d below. unit_of (get_or xs k d)
          where
            unit_of : (x : Output ImageDue) → OfImage (λ (due : ImageDue). Unit {0}) x
            unit_of (out.Image a) = tt
            unit_of (out.Hit n a) = tt

    module _ (pictures : ℕ → Picture) (expected : All (λ (one : OnLayer L). expects one ≡ pictures one.shown.picture) on) where
      pictured : (shown : Shown) (source : ℕ) (is : IsSourceOf on (content.Buffer shown) source) → expects (get_or on source (some_item on source is.0)) ≡ pictures shown.picture
      pictured shown source is = let d = some_item on source is.0 in expected source d is.0 ∙ ap (λ (s : Shown). pictures s.picture) (is.1 d)

      source_one : (c : Content) (source : ℕ) → IsSourceOf on c source → HasSource pictures (map expects on) c source
      source_one (content.Colour colour) source is = tt
      source_one (content.Buffer shown) source is = record {
        content = there source is.0 ∙ ap (λ (p : Picture). Some p) (pictured shown source is);
        crop = subst (λ (p : Picture). LiesWithin shown.crop p.width p.height) (pictured shown source is) (crop shown source is);
      }

      made_found : (due : ImageDue) (sourced : SourcedView) → IsSourcedDue on due sourced → FindsPictures pictures (map expects on) sourced
      made_found due sourced made = record {
        all = zip_weaker (λ (one : Drawn) (source : ℕ). IsSourceOf on one.content source) (λ (one : Drawn) (source : ℕ). HasSource pictures (map expects on) one.content source)
            (λ one source is. source_one one.content source is) sourced.view.drawn sourced.sources made.sources;
      }

      -- what is made finds its pictures
      pub all_found : (dues : List (Output ImageDue)) (made : List (Output SourcedView)) → AllZip (IsOutput (IsSourcedDue on)) dues made → All (OfImage (FindsPictures pictures (map expects on))) made
      all_found dues made is =
          of_images (λ (due : ImageDue). Unit {0}) (IsSourcedDue on) (FindsPictures pictures (map expects on)) (λ due sourced u m. made_found due sourced m) dues made (all_unit dues) is
        where
          all_unit : (xs : List (Output ImageDue)) → All (OfImage (λ (due : ImageDue). Unit {0})) xs
          all_unit xs = λ k d below. unit_of (get_or xs k d)
            where
              unit_of : (x : Output ImageDue) → OfImage (λ (due : ImageDue). Unit {0}) x
              unit_of (out.Image a) = tt
              unit_of (out.Hit n a) = tt
