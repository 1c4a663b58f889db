-- What shows of drawn layers, found from the front.
use Rattle.std.proofs.Common.{◌≡◌, ℤ, Bool, true, false, not, ◌&&◌, ◌||◌, List, [], ◌∷◌, ◌++◌, reverse, refl, sym, ◌∙◌, ap, arith}
use Rattle.std.specs.List.{list_any}
use Rattle.std.proofs.lemmas.Bool.{false≢true}
use Rattle.std.proofs.lemmas.List.{reverse-append}
use Rattle.std.proofs.lemmas.List.Elements.{All-push}
use Rattle.sf_base.specs.Geometry.{covers}
use Rattle.sf_base.specs.declared.geometry.Rect.{Rect}
use Rattle.sf_region.specs.Points.{IsInBounds, has}
use Rattle.sf_view.specs.Views.{is_in_clip}
use Rattle.sf_view.specs.declared.drawn.Drawn.{Drawn}
use Rattle.sf_damage.specs.inner.Showing.{HideAt, IsShown}
use Rattle.sf_damage.specs.Visible.{AreVisibleAt, AreWithin, hides_all, hides_at}
use Rattle.sf_damage.proofs.GatheredLemmas.{has-append}

-- a clip that shows nothing is hidden
absorbed : (c h : Bool) → (c && not h) ≡ false → h ≡ (c || h)
absorbed false h e = refl
absorbed true true e = refl
absorbed true false e = absurd (false≢true (sym e))

-- a region has what these rectangles leave of a rectangle, at the points that pass a test
abbrev pub IsLeftAt : (ℤ → ℤ → Bool) → Rect → List Rect → List Rect → Type 0
IsLeftAt test rect hidden region = (x y : ℤ) → test x y ≡ true → has region x y ≡ (covers rect x y && not (has hidden x y))

visible_more : (test : ℤ → ℤ → Bool) (d : Drawn) (ds : List Drawn) (shown pushed : List (List Rect)) (hidden region : List Rect) → IsLeftAt test d.clip hidden region → ((x y : ℤ) → has region x y ≡ true → covers d.clip x y ≡ true)
    → pushed ≡ shown ++ region ∷ [] → IsShown test ds shown hidden → AreVisibleAt test (d ∷ ds) (reverse pushed) × AreWithin (d ∷ ds) (reverse pushed)
visible_more test d ds shown pushed hidden region points inside is before =
    rw (is, reverse-append shown (region ∷ []))
    ((λ x y t. points x y t ∙ ap (λ h. covers d.clip x y && not h) (before.hides x y t), before.visible), (inside, before.within))

hidden_more : (test : ℤ → ℤ → Bool) (d : Drawn) (ds : List Drawn) (hidden all : List Rect) → hides_all d ≡ true → HideAt test hidden ds
    → ((x y : ℤ) → test x y ≡ true → has all x y ≡ (covers d.clip x y || has hidden x y)) → HideAt test all (d ∷ ds)
hidden_more test d ds hidden all solid hides points x y t =
    points x y t ∙ (ap (λ h. covers d.clip x y || h) (hides x y t) ∙ ap (λ b. (b && is_in_clip d x y) || list_any (hides_at x y) ds) (sym solid))

or_swap : (a b : Bool) → (a || (b || false)) ≡ (b || a)
or_swap true true = refl
or_swap true false = refl
or_swap false true = refl
or_swap false false = refl

-- no layers show nothing, and hide nothing
pub shown_none : (test : ℤ → ℤ → Bool) → IsShown test [] [] []
shown_none test = record {
  visible = refl;
  within = tt;
  hides = λ x y t. refl;
  near = λ k d inside. absurd (omega (arith, inside));
}

-- a layer that hides what is below it
pub shown_hides : (test : ℤ → ℤ → Bool) (d : Drawn) (ds : List Drawn) (shown pushed : List (List Rect)) (hidden all region : List Rect) → hides_all d ≡ true → IsInBounds d.clip → IsLeftAt test d.clip hidden region → ((x y : ℤ) → has region x y ≡ true → covers d.clip x y ≡ true)
    → pushed ≡ shown ++ region ∷ [] → all ≡ hidden ++ d.clip ∷ [] → IsShown test ds shown hidden → IsShown test (d ∷ ds) pushed all
shown_hides test d ds shown pushed hidden all region solid near points inside is all_is before =
    let both = visible_more test d ds shown pushed hidden region points inside is before in
    record {
      visible = both.0;
      within = both.1;
      hides = hidden_more test d ds hidden all solid before.hides (λ x y t. rw all_is (has-append hidden (d.clip ∷ []) x y ∙ or_swap (has hidden x y) (covers d.clip x y)));
      near = rw all_is (All-push IsInBounds hidden d.clip before.near near);
    }

-- a layer that hides, and of which nothing shows: no more is hidden than before
pub shown_empty : (test : ℤ → ℤ → Bool) (d : Drawn) (ds : List Drawn) (shown pushed : List (List Rect)) (hidden region : List Rect) → hides_all d ≡ true → region ≡ [] → IsLeftAt test d.clip hidden region → ((x y : ℤ) → has region x y ≡ true → covers d.clip x y ≡ true)
    → pushed ≡ shown ++ region ∷ [] → IsShown test ds shown hidden → IsShown test (d ∷ ds) pushed hidden
shown_empty test d ds shown pushed hidden region solid empty points inside is before =
    let both = visible_more test d ds shown pushed hidden region points inside is before in
    record {
      visible = both.0;
      within = both.1;
      hides = hidden_more test d ds hidden hidden solid before.hides (λ x y t. absorbed (covers d.clip x y) (has hidden x y) (sym (points x y t) ∙ ap (λ (rs : List Rect). has rs x y) empty));
      near = before.near;
    }

-- a layer that hides nothing
pub shown_clear : (test : ℤ → ℤ → Bool) (d : Drawn) (ds : List Drawn) (shown pushed : List (List Rect)) (hidden region : List Rect) → hides_all d ≡ false → IsLeftAt test d.clip hidden region → ((x y : ℤ) → has region x y ≡ true → covers d.clip x y ≡ true)
    → pushed ≡ shown ++ region ∷ [] → IsShown test ds shown hidden → IsShown test (d ∷ ds) pushed hidden
shown_clear test d ds shown pushed hidden region clear points inside is before =
    let both = visible_more test d ds shown pushed hidden region points inside is before in
    record {
      visible = both.0;
      within = both.1;
      hides = λ x y t. before.hides x y t ∙ ap (λ b. (b && is_in_clip d x y) || list_any (hides_at x y) ds) (sym clear);
      near = before.near;
    }

-- what is left of a clip, where the rectangles that hide are known by another name
pub left_by : (test : ℤ → ℤ → Bool) (rect : Rect) (region found hidden : List Rect) → found ≡ hidden → IsLeftAt test rect found region → IsLeftAt test rect hidden region
left_by test rect region found hidden same points x y t = points x y t ∙ ap (λ (l : List Rect). covers rect x y && not (has l x y)) same
